use Rattle.std.proofs.Common.{length}
use Rattle.csp_search.proofs.parts.goals_below.Given as goal

abbrev pub decreases-loop-is_apart : goal.decreases-loop-is_apart
decreases-loop-is_apart l = length l.outer.items
