-- The pieces of the strands so far.
use Rattle.std.proofs.Common.{◌≡◌, take}
use Rattle.std.specs.List.{flat_map}
use Rattle.csp_desk.specs.Weaves.{strand_text}
use Rattle.csp_desk.proofs.weave.pieces_of.Given as goal

abbrev pub invariant-loop-strand : goal.invariant-loop-strand
invariant-loop-strand l =
    flat_map (λ piece. piece.now) l.pieces.items
    ≡ flat_map (strand_text l.own l.endings) (take l.strand-index l.strands)
