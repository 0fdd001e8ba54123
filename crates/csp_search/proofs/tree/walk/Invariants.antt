use Rattle.csp_search.proofs.Walking.{Walks, work_left}
use Rattle.csp_search.proofs.tree.walk.Given as goal

abbrev pub invariant-loop-plan : goal.invariant-loop-plan
invariant-loop-plan l = Walks l.asked.question l.fn.walker l.walker l.nodes

abbrev pub decreases-loop-plan : goal.decreases-loop-plan
decreases-loop-plan l = work_left l.walker
