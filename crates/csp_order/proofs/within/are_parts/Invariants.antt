use Rattle.std.proofs.Common.{ℕ, ◌<◌}
use Rattle.std.specs.Prelude.{slice_get}
use Rattle.csp_order.specs.Within.{AreBoth, HasPartOf}
use Rattle.csp_order.proofs.within.are_parts.Given as goal

abbrev pub invariant-loop-place : goal.invariant-loop-place
invariant-loop-place l = (i : ℕ) → i < l.place → AreBoth HasPartOf (slice_get l.ones i) (slice_get l.others i)
