use Rattle.csp_model.proofs.PathFronts.{same_by_text}
use Rattle.csp_model.proofs.path.PathPartialEq.eq.Goals as goal

pub returns : goal.returns
returns c =
    rw (← c.self.view_is, ← c.other.view_is)
    (same_by_text _ _ c.eq.result c.self.invariant c.other.invariant c.eq.ensures)
