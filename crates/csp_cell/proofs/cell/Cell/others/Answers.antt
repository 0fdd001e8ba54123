use Rattle.csp_cell.proofs.Parts.{others_of}
use Rattle.csp_cell.proofs.cell.Cell.others.Goals as goal

pub returns-clause-cell : goal.returns-clause-cell
returns-clause-cell c = rw (← c.self.view_is) c.self.invariant.cell

pub returns-clause-others : goal.returns-clause-others
returns-clause-others c =
    rw (← c.self.view_is, c.deref.ensures.value) (others_of c.self.inside.placing.items c.self.inside.others.items c.self.invariant.placing c.self.invariant.others)
