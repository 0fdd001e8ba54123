use Rattle.csp_cell.proofs.cell.Cell.shape.Goals as goal

pub returns-clause-together : goal.returns-clause-together
returns-clause-together c = rw (← c.self.view_is) c.self.invariant.cell.pairs
