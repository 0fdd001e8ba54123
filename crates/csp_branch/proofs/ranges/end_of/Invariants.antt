use Rattle.std.proofs.Common.{length, ◌-◌}
use Rattle.csp_branch.proofs.Ending.{IsUnderTo}
use Rattle.csp_branch.proofs.ranges.end_of.Given as goal

abbrev pub invariant-loop-end : goal.invariant-loop-end
invariant-loop-end l = IsUnderTo l.atoms l.number l.end

abbrev pub decreases-loop-end : goal.decreases-loop-end
decreases-loop-end l = length l.atoms - l.end
