use Rattle.std.proofs.Common.{arith}
use Rattle.csp_branch.proofs.Keeping.{back, denied_long, groups_long, one_less, step_here}
use Rattle.csp_branch.proofs.branch.Branch.take_back.Goals as goal

pub index_mut-requires : goal.index_mut-requires
index_mut-requires c =
    let inside = c.self.inside in
    omega (
      arith,
      c.group_of-number.ensures.inside,
      inside.groups.ok.0,
      groups_long inside.names inside.path.items inside.groups.items inside.denied.items c.self.invariant,
    )

pub index_mut-requires-2 : goal.index_mut-requires-2
index_mut-requires-2 c =
    let inside = c.self.inside in
    omega (
      arith,
      inside.denied.ok.0,
      denied_long inside.names inside.path.items inside.groups.items inside.denied.items c.self.invariant,
      step_here inside.names inside.path.items inside.groups.items inside.denied.items c.self.invariant c.args.change c.args.self.now c.self.view_is c.requires,
    )

pub invariant_of-self : goal.invariant_of-self
invariant_of-self c =
    let inside = c.self.inside in
    one_less inside.names inside.path.items inside.groups.items inside.denied.items c.self.invariant c.args.change c.args.self.now c.self.view_is c.requires
    c.group_of-number.result c.before-self-inside.result.items c.group_of-number.ensures.number c.before-self-inside.ensures

pub returns : goal.returns
returns c =
    let inside = c.self.inside in
    back inside.names inside.path.items inside.groups.items inside.denied.items c.self.invariant c.args.change c.args.self.now c.self.view_is c.requires
    c.before-self-inside.result.items c.before-self-inside.ensures
