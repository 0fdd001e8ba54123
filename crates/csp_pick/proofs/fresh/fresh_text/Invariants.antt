use Rattle.std.proofs.Common.{◌≡◌, ◌<◌, ◌≤◌, ℕ, Any, Some}
use Rattle.csp_pick.specs.Fresh.{numbered}
use Rattle.csp_pick.proofs.fresh.fresh_text.Given as goal

-- each candidate so far is said
abbrev pub invariant-loop-number : goal.invariant-loop-number
invariant-loop-number g l = (k : ℕ) → 1 ≤ k → k < l.number → Any (λ value. g.S.Says.said value ≡ Some (numbered l.fn.front k l.fn.back)) l.fn.values
