use Rattle.std.proofs.Common.{arith, ◌<◌, length}
use Rattle.csp_branch.proofs.Keeping.{clear, decided_here, denied_long, groups_long, known_here}
use Rattle.csp_branch.proofs.branch.Branch.known.Goals as goal

pub index-group-requires : goal.index-group-requires
index-group-requires c =
    let inside = c.self.inside in
    omega (
      arith,
      c.group_of.ensures.inside,
      inside.groups.ok.0,
      groups_long inside.names inside.path.items inside.groups.items inside.denied.items c.self.invariant,
    )

pub known_of-requires-clause-denied : goal.known_of-requires-clause-denied
known_of-requires-clause-denied c =
    let inside = c.self.inside in
    rw c.deref.ensures.value
    (denied_long inside.names inside.path.items inside.groups.items inside.denied.items c.self.invariant)

pub known_of-requires-clause-clear : goal.known_of-requires-clause-clear
known_of-requires-clause-clear c =
    let inside = c.self.inside in
    clear inside.names inside.path.items inside.groups.items inside.denied.items c.self.invariant
    c.deref.result.now c.group_of.result c.index-group.result.now c.deref.ensures.value c.group_of.ensures.inside c.index-group.ensures

pub returns : goal.returns
returns c d =
    let inside = c.self.inside in
    let there : c.args.asked < length inside.names = rw (← c.self.view_is) at c.requires in
    rw (← c.self.view_is)
    (decided_here inside.names inside.path.items inside.groups.items inside.denied.items c.self.invariant c.args.asked d c.known_of.result there
    (known_here inside.names inside.path.items inside.groups.items inside.denied.items c.self.invariant
    c.deref.result.now c.group_of.result c.index-group.result.now c.args.asked c.known_of.result c.deref.ensures.value c.group_of.ensures.inside c.group_of.ensures.number c.index-group.ensures
    c.known_of.ensures))
