use Rattle.csp_branch.proofs.Forest.{steps_left}
use Rattle.csp_search.proofs.view.View.add_about.Given as goal

abbrev pub decreases-loop-next : goal.decreases-loop-next
decreases-loop-next l = steps_left l.next
