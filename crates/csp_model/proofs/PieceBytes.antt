-- The pieces of a valid path are bytes.
use Rattle.std.proofs.Common.{◌≡◌, ℕ, true, nat_lt, List, All}
use Rattle.std.specs.List.{list_all}
use Rattle.std.specs.Str.{bytes_eq}
use Rattle.std.specs.Prelude.{codes, ◌&&◌, not}
use Rattle.std.proofs.lemmas.Bool.{and_parts, ltb-true}
use Rattle.std.proofs.lemmas.List.Elements.{All-weaker}
use Rattle.std.proofs.lemmas.List.Sums.{AllPass-from_list_all}
use Rattle.percent_encoding.proofs.PercentLemmas.{IsByte}
use Rattle.csp_model.specs.Validity.{are_bytes, is_piece}

pub All-IsByte : (text : List ℕ) → are_bytes text ≡ true → All IsByte text
All-IsByte text h = All-weaker (λ b. nat_lt b 256 ≡ true) IsByte (λ b. ltb-true b 256) text (AllPass-from_list_all (λ b. nat_lt b 256) text h)

pub piece_bytes : (piece : List ℕ) → is_piece piece ≡ true → are_bytes piece ≡ true
unfolding is_piece
piece_bytes piece h =
    let front = and_parts (are_bytes piece && not (bytes_eq piece (codes "."))) (not (bytes_eq piece (codes ".."))) h in
    (and_parts (are_bytes piece) (not (bytes_eq piece (codes "."))) front.0).0

pub pieces_bytes : (pieces : List (List ℕ)) → list_all is_piece pieces ≡ true → All (All IsByte) pieces
pieces_bytes pieces h =
    All-weaker (λ piece. is_piece piece ≡ true) (All IsByte) (λ piece is. All-IsByte piece (piece_bytes piece is)) pieces (AllPass-from_list_all is_piece pieces h)
