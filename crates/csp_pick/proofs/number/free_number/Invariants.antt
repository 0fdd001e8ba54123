use Rattle.std.proofs.Common.{◌≡◌, ◌<◌, ◌≤◌, ℕ, Any, Some}
use Rattle.csp_pick.specs.Said.{number_of}
use Rattle.csp_pick.proofs.number.free_number.Given as goal

-- each number so far is said
abbrev pub invariant-loop-number : goal.invariant-loop-number
invariant-loop-number l = (k : ℕ) → l.first ≤ k → k < l.number → Any (λ literal. number_of l.part literal.atom ≡ Some k) l.literals
