use Rattle.std.proofs.Common.{◌≡◌, ◌++◌, drop, map}
use Rattle.std.specs.List.{filter_map, flat_map}
use Rattle.csp_policy.specs.Delivered.{piece_said}
use Rattle.csp_policy.specs.ReadingLines.{told_line}
use Rattle.csp_policy.specs.Told.{told_dropped}
use Rattle.csp_policy.proofs.read.append_pieces.Given as goal

-- the text, and the lines of the pieces that are left, are the text before and the lines of all pieces
abbrev pub invariant-loop-piece : goal.invariant-loop-piece
invariant-loop-piece l =
    l.text.items ++ flat_map told_line (filter_map (told_dropped l.line) (map piece_said (drop l.piece-index l.pieces)))
    ≡ l.fn.text.items ++ flat_map told_line (filter_map (told_dropped l.line) (map piece_said l.pieces))
