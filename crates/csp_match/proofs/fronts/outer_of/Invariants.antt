use Rattle.csp_match.proofs.FrontWalk.{IsAbove, steps_left}
use Rattle.csp_match.proofs.fronts.outer_of.Given as goal

abbrev pub invariant-loop-next : goal.invariant-loop-next
invariant-loop-next l = IsAbove l.targets l.at l.next

abbrev pub decreases-loop-next : goal.decreases-loop-next
decreases-loop-next l = steps_left l.next
