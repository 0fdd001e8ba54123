use Rattle.std.proofs.Common.{◌-◌}
use Rattle.csp_facts.specs.Numbers.{shape_count}
use Rattle.csp_answer.proofs.SameKinds.{KindsTo}
use Rattle.csp_answer.proofs.table.kinds_of.Given as goal

abbrev pub invariant-loop-shape : goal.invariant-loop-shape
invariant-loop-shape l = KindsTo l.first l.second l.kinds l.number

abbrev pub decreases-loop-shape : goal.decreases-loop-shape
decreases-loop-shape l = shape_count - l.number
