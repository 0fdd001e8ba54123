use Rattle.csp_branch.proofs.Forest.{IsLeft, steps_left}
use Rattle.csp_branch.proofs.ranges.Ranges.outer_of.Given as goal

abbrev pub invariant-loop-next : goal.invariant-loop-next
invariant-loop-next l = IsLeft l.self l.name l.next

abbrev pub decreases-loop-next : goal.decreases-loop-next
decreases-loop-next l = steps_left l.next
