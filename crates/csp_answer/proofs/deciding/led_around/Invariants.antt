use Rattle.csp_branch.proofs.Forest.{steps_left}
use Rattle.csp_answer.proofs.Walking.{IsWalk}
use Rattle.csp_answer.proofs.deciding.led_around.Given as goal

abbrev pub invariant-loop-next : goal.invariant-loop-next
invariant-loop-next l = IsWalk l.branch l.conjunctions l.place l.next l.known

abbrev pub decreases-loop-next : goal.decreases-loop-next
decreases-loop-next l = steps_left l.next
