use Rattle.std.proofs.Common.{◌≡◌, ◌≤◌, ◌+◌, ◌++◌, map, length}
use Rattle.csp_model.specs.Ascii.{split_at}
use Rattle.csp_proof.specs.Places.{IsReached, branches, place_lines}
use Rattle.csp_proof.specs.Spelling.{line_text}
use Rattle.csp_proof.proofs.read.read_proof.Given as goal

-- the lines so far lead to the place, and with what is left they are the text
abbrev pub invariant-loop-text : goal.invariant-loop-text
invariant-loop-text l = record {
  reached : IsReached l.place;
  number : l.number ≡ length (place_lines l.place) + 1;
  text : split_at 10 l.bytes ≡ map line_text (place_lines l.place) ++ split_at 10 l.rest;
  branches : branches l.place + 1 ≤ l.number;
  size : l.number + length l.rest ≤ length l.bytes + 1;
}

abbrev pub decreases-loop-text : goal.decreases-loop-text
decreases-loop-text l = length l.rest
