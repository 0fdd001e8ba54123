use Rattle.std.proofs.Common.{ℕ, ◌<◌}
use Rattle.std.specs.Prelude.{slice_get}
use Rattle.csp_order.specs.Within.{AreBoth, IsPolicyWithin}
use Rattle.csp_order.proofs.within.is_within.Given as goal

abbrev pub invariant-loop-place : goal.invariant-loop-place
invariant-loop-place l = (i : ℕ) → i < l.place → AreBoth IsPolicyWithin (slice_get l.ours i) (slice_get l.theirs i)
