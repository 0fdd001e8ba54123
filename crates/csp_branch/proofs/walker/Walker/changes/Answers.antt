use Rattle.csp_branch.proofs.Walking.{changes_named, changes_say}
use Rattle.csp_branch.proofs.walker.Walker.changes.Goals as goal

pub returns-clause-literals : goal.returns-clause-literals
returns-clause-literals c =
    rw (← c.self.view_is, c.deref.ensures.value) (changes_say c.self.inside.changes.items c.self.inside.branch c.self.invariant.0)

pub returns-clause-named : goal.returns-clause-named
returns-clause-named c =
    rw (← c.self.view_is, c.deref.ensures.value) (changes_named c.self.inside.changes.items c.self.inside.branch c.self.invariant.0)
