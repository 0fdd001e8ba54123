use Rattle.std.proofs.lemmas.Bool.Decides.{same_from_decides}
use Rattle.csp_model.proofs.EndLaws.{begins_Decides}
use Rattle.csp_model.proofs.PathFronts.{begins_by_views}
use Rattle.csp_model.proofs.path.Path.begins_with.Goals as goal

pub returns-clause-beyond : goal.returns-clause-beyond
returns-clause-beyond c =
    rw (← c.self.view_is, ← c.front.view_is)
    (begins_by_views _ _ c.starts_with.result c.self.invariant c.front.invariant
    (rw (← c.as_bytes.ensures.value, ← c.as_bytes-2.ensures.value) c.starts_with.ensures.value))

pub returns-clause-value : goal.returns-clause-value
returns-clause-value c = same_from_decides c.starts_with.result _ (returns-clause-beyond c) (begins_Decides c.args.self.now c.args.front.now)
