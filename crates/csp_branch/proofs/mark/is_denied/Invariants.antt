use Rattle.std.proofs.Common.{◌≡◌}
use Rattle.csp_branch.proofs.Forest.{steps_left}
use Rattle.csp_branch.proofs.Denials.{IsWalk}
use Rattle.csp_branch.proofs.mark.is_denied.Given as goal

abbrev pub invariant-loop-next : goal.invariant-loop-next
invariant-loop-next l = (l.place ≡ l.fn.place) × IsWalk l.names l.denied l.asked l.next

abbrev pub decreases-loop-next : goal.decreases-loop-next
decreases-loop-next l = steps_left l.next
