use Rattle.std.proofs.Common.{◌<◌, ℕ}
use Rattle.memchr.specs.Find.{Passes, is_byte}
use Rattle.csp_policy.proofs.pieces.separator_at.Given as goal

-- no byte so far is the separator
abbrev pub invariant-loop-at : goal.invariant-loop-at
invariant-loop-at l = (k : ℕ) → k < l.at → Passes (is_byte l.separator) l.text k → ⊥
