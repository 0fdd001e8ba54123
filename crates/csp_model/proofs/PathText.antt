-- The text of a path, cut at its slashes and decoded, is the path's pieces.
use Rattle.std.proofs.Common.{arith, ◌≡◌, ◌∙◌, ap, refl, ℕ, false, ◌==◌, List, [], ◌∷◌, ◌++◌, map, All, append-nil, inl, inr}
use Rattle.std.proofs.lemmas.Bool.Decides.{eqb_tells}
use Rattle.std.proofs.lemmas.List.Elements.{All-head, All-tail}
use Rattle.std.proofs.lemmas.List.Splits.{slice_split_none, slice_split_at}
use Rattle.percent_encoding.specs.AsciiSet.{should_percent_encode}
use Rattle.percent_encoding.specs.Percent.{percent_encode, percent_decode}
use Rattle.percent_encoding.proofs.PercentLemmas.{IsByte, IsEscapeByte, All-percent_encode, round_trip}
use Rattle.csp_model.specs.Ascii.{split_at}
use Rattle.csp_model.specs.Paths.{path_text}
use Rattle.csp_model.specs.declared.path.TheConstants.{ESCAPED}

kept_no_slash : (b : ℕ) → should_percent_encode ESCAPED b ≡ false → (b == 47) ≡ false
unfolding should_percent_encode
kept_no_slash b h = elim (eqb_tells b 47) [
  | inl e ↦ absurd (let g : should_percent_encode ESCAPED 47 ≡ false = rw e.1 at h in cc g)
  | inr ne ↦ ne.0
]

escape_no_slash : (b : ℕ) → IsEscapeByte b → (b == 47) ≡ false
escape_no_slash b h = elim (eqb_tells b 47) [
  | inl e ↦ absurd (let f = e.1 in omega (arith, h))
  | inr ne ↦ ne.0
]

pub no_slash_in : (piece : List ℕ) → All (λ b. (b == 47) ≡ false) (percent_encode ESCAPED piece)
no_slash_in piece = All-percent_encode (λ b. (b == 47) ≡ false) ESCAPED piece kept_no_slash escape_no_slash

-- behind its first slash
pub split_at-path_text : (piece : List ℕ) (pieces : List (List ℕ)) → split_at 47 (percent_encode ESCAPED piece ++ path_text pieces) ≡ map (percent_encode ESCAPED) (piece ∷ pieces)
split_at-path_text piece [] = rw append-nil (slice_split_none (λ b. b == 47) (percent_encode ESCAPED piece) (no_slash_in piece))
split_at-path_text piece (next ∷ pieces) =
    slice_split_at (λ b. b == 47) (percent_encode ESCAPED piece) 47 (percent_encode ESCAPED next ++ path_text pieces) (no_slash_in piece) refl
    ∙ ap (λ parts. percent_encode ESCAPED piece ∷ parts) (split_at-path_text next pieces)

pub decoded_again : (pieces : List (List ℕ)) → All (All IsByte) pieces → map percent_decode (map (percent_encode ESCAPED) pieces) ≡ pieces
decoded_again [] bytes = refl
decoded_again (piece ∷ pieces) bytes =
    rw (round_trip ESCAPED piece refl (All-head (All IsByte) piece pieces bytes), decoded_again pieces (All-tail (All IsByte) piece pieces bytes)) refl
