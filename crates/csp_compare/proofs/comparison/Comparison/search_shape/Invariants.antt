use Rattle.std.proofs.Common.{◌≡◌, take}
use Rattle.csp_compare.proofs.Adding.{IsSoFar}
use Rattle.csp_compare.specs.Comparisons.{lists_of}
use Rattle.csp_compare.proofs.comparison.Comparison.search_shape.Given as goal

abbrev pub invariant-loop-policy : goal.invariant-loop-policy
invariant-loop-policy l =
    (l.walker ≡ l.fn.walker)
    × IsSoFar (lists_of l.self) l.shape l.fn.draft l.draft (take l.policy-index l.policy-items) l.numbers.items
