use Rattle.std.proofs.Common.{◌≡◌, map}
use Rattle.percent_encoding.specs.Percent.{percent_decode}
use Rattle.csp_model.proofs.path.Path.read.Given as goal

-- the pieces so far
abbrev pub invariant-loop-piece : goal.invariant-loop-piece
invariant-loop-piece l = l.path ≡ map percent_decode (map (λ piece. piece.now) l.yielded)
