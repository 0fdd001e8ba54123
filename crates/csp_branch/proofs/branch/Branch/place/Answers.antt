use Rattle.std.proofs.Common.{arith}
use Rattle.csp_branch.proofs.Grouping.{below_nine}
use Rattle.csp_branch.proofs.Keeping.{groups_long, places_here}
use Rattle.csp_branch.proofs.branch.Branch.place.Goals as goal

pub index-requires : goal.index-requires
index-requires c =
    let inside = c.self.inside in
    omega (
      arith,
      c.part_number.ensures,
      below_nine c.args.part,
      inside.groups.ok.0,
      groups_long inside.names inside.path.items inside.groups.items inside.denied.items c.self.invariant,
    )

pub returns-in_default : goal.returns-in_default
returns-in_default c =
    let inside = c.self.inside in
    rw (← c.self.view_is)
    (places_here inside.names inside.path.items inside.groups.items inside.denied.items c.self.invariant
    c.args.part c.in_default.not-Integrity c.part_number.result c.index.result.now c.part_number.ensures c.index.ensures)
