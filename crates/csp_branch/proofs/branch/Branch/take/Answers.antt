use Rattle.std.proofs.Common.{arith, ◌<◌, length}
use Rattle.csp_branch.proofs.Keeping.{clear, denied_long, groups_long, last_is, one_more}
use Rattle.csp_branch.proofs.branch.Branch.take.Goals as goal

pub index-requires : goal.index-requires
index-requires c =
    let inside = c.self.inside in
    omega (
      arith,
      c.group_of-number.ensures.inside,
      inside.groups.ok.0,
      groups_long inside.names inside.path.items inside.groups.items inside.denied.items c.self.invariant,
    )

pub index-requires-2 : goal.index-requires-2
index-requires-2 c =
    let inside = c.self.inside in
    let there : c.args.name < length inside.names = rw (← c.self.view_is) at c.requires in
    omega (
      arith,
      there,
      inside.denied.ok.0,
      denied_long inside.names inside.path.items inside.groups.items inside.denied.items c.self.invariant,
    )

pub known_of-known-requires-clause-denied : goal.known_of-known-requires-clause-denied
known_of-known-requires-clause-denied c =
    let inside = c.self.inside in
    rw c.deref.ensures.value
    (denied_long inside.names inside.path.items inside.groups.items inside.denied.items c.self.invariant)

pub known_of-known-requires-clause-clear : goal.known_of-known-requires-clause-clear
known_of-known-requires-clause-clear c =
    let inside = c.self.inside in
    clear inside.names inside.path.items inside.groups.items inside.denied.items c.self.invariant
    c.deref.result.now c.group_of-number.result c.index.result.now c.deref.ensures.value c.group_of-number.ensures.inside c.index.ensures

pub index_mut-requires : goal.index_mut-requires
index_mut-requires c =
    let inside = c.self.inside in
    omega (
      arith,
      c.group_of-number.ensures.inside,
      inside.groups.ok.0,
      groups_long inside.names inside.path.items inside.groups.items inside.denied.items c.self.invariant,
    )

pub index_mut-requires-2 : goal.index_mut-requires-2
index_mut-requires-2 c =
    let inside = c.self.inside in
    let there : c.args.name < length inside.names = rw (← c.self.view_is) at c.requires in
    omega (
      arith,
      there,
      inside.denied.ok.0,
      denied_long inside.names inside.path.items inside.groups.items inside.denied.items c.self.invariant,
    )

pub invariant_of-self : goal.invariant_of-self
invariant_of-self c =
    let inside = c.self.inside in
    let there : c.args.name < length inside.names = rw (← c.self.view_is) at c.requires in
    one_more inside.names inside.path.items inside.groups.items inside.denied.items c.self.invariant
    c.args.name c.args.positive c.group_of-number.result c.index.result.now c.index-2.result.now there c.group_of-number.ensures.inside c.group_of-number.ensures.number
    c.index.ensures c.index-2.ensures c.then-self-inside.result.items c.then-self-inside.ensures
    c.deref.result.now c.known_of-known.result c.after-mark.result c.deref.ensures.value c.known_of-known.ensures c.after-mark.ensures

pub returns-clause-last : goal.returns-clause-last
returns-clause-last c =
    let inside = c.self.inside in
    let there : c.args.name < length inside.names = rw (← c.self.view_is) at c.requires in
    last_is inside.names inside.path.items inside.groups.items inside.denied.items c.self.invariant
    c.args.name c.args.positive c.group_of-number.result c.index.result.now c.index-2.result.now there c.group_of-number.ensures.inside c.group_of-number.ensures.number
    c.index.ensures c.index-2.ensures c.then-self-inside.result.items c.then-self-inside.ensures
