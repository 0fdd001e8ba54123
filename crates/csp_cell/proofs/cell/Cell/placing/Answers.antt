use Rattle.csp_cell.proofs.Parts.{placing_of}
use Rattle.csp_cell.proofs.cell.Cell.placing.Goals as goal

pub returns-clause-cell : goal.returns-clause-cell
returns-clause-cell c = rw (← c.self.view_is) c.self.invariant.cell

pub returns-clause-placing : goal.returns-clause-placing
returns-clause-placing c =
    rw (← c.self.view_is, c.deref.ensures.value) (placing_of c.self.inside.placing.items c.self.inside.others.items c.self.invariant.placing c.self.invariant.others)
