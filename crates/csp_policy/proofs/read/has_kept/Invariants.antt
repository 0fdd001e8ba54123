use Rattle.std.proofs.Common.{◌≡◌, drop, map}
use Rattle.csp_policy.specs.Delivered.{piece_said}
use Rattle.csp_policy.specs.Told.{directives_in}
use Rattle.csp_policy.proofs.read.has_kept.Given as goal

-- none of the pieces so far is kept
abbrev pub invariant-loop-piece : goal.invariant-loop-piece
invariant-loop-piece l = directives_in (map piece_said (drop l.piece-index l.pieces)) ≡ directives_in (map piece_said l.pieces)
