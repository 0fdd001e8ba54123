use Rattle.csp_match.proofs.FrontWalk.{IsLeft, steps_left}
use Rattle.csp_match.proofs.fronts.Fronts.any_fits.Given as goal

abbrev pub invariant-loop-next : goal.invariant-loop-next
invariant-loop-next l = IsLeft l.asked l.host l.self l.last l.next

abbrev pub decreases-loop-next : goal.decreases-loop-next
decreases-loop-next l = steps_left l.next
