use Rattle.std.proofs.Common.{◌≡◌, ◌++◌, All, length, map, reverse}
use Rattle.csp_tidy.specs.Candidates.{candidates}
use Rattle.csp_tidy.specs.Tidied.{IsNeeded, place_of}
use Rattle.csp_tidy.proofs.rounds.go_round.Given as goal

abbrev pub invariant-loop-place : goal.invariant-loop-place
invariant-loop-place l =
    (l.places.items ++ map place_of (reverse l.needed.items) ≡ candidates l.list) × All (IsNeeded l.list) l.needed.items

abbrev pub decreases-loop-place : goal.decreases-loop-place
decreases-loop-place l = length l.places.items
