use Rattle.std.proofs.Common.{length}
use Rattle.csp_tidy.specs.Asking.{IsThinner}
use Rattle.csp_tidy.proofs.rounds.thin.Given as goal

abbrev pub invariant-loop-place : goal.invariant-loop-place
invariant-loop-place l = IsThinner l.fn.list l.current

abbrev pub decreases-loop-place : goal.decreases-loop-place
decreases-loop-place l = length l.places.items
