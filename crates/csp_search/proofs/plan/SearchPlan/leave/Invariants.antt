use Rattle.std.proofs.Common.{length}
use Rattle.csp_search.proofs.plan.SearchPlan.leave.Given as goal

abbrev pub decreases-loop-name : goal.decreases-loop-name
decreases-loop-name l = length l.frame.names.items
