-- A text can be cut off behind what it was before a piece with escapes was added to it.
use Rattle.std.proofs.Common.{arith, ◌≡◌, ◌<◌, ◌∙◌, sym, ap, subst, ℕ, ◌-◌, List, [], ◌∷◌, ◌++◌, length, take, length-append, All}
use Rattle.std.specs.Prelude.{slice_index}
use Rattle.std.specs.String.Boundary.{IsSplitPoint}
use Rattle.std.proofs.Math.Seq.{take-append_seam}
use Rattle.std.proofs.lemmas.List.{get_or-append_right}
use Rattle.std.proofs.lemmas.List.Elements.{All-head}
use Rattle.percent_encoding.specs.Percent.{percent_encode}
use Rattle.percent_encoding.proofs.AsciiSetLemmas.{ascii_from_kept}
use Rattle.percent_encoding.proofs.PercentLemmas.{IsEscapeByte, All-percent_encode}
use Rattle.csp_model.specs.declared.path.TheConstants.{ESCAPED}

abbrev IsAsciiByte : ℕ → Type 0
IsAsciiByte b = b < 128

escape_ascii : (b : ℕ) → IsEscapeByte b → IsAsciiByte b
escape_ascii b h = grind arith

pub encoded_ascii : (piece : List ℕ) → All (λ b. b < 128) (percent_encode ESCAPED piece)
encoded_ascii piece = All-percent_encode IsAsciiByte ESCAPED piece (ascii_from_kept ESCAPED) escape_ascii

pub front_kept : (n : ℕ) (s more text : List ℕ) → n ≡ length s → text ≡ s ++ more → take n text ≡ s
front_kept n s more text e is = ap (take n) is ∙ ap (λ k. take k (s ++ more)) e ∙ take-append_seam s more

byte_after : (n : ℕ) (s rest : List ℕ) (b : ℕ) → n ≡ length s → slice_index (s ++ b ∷ rest) n ≡ b
byte_after n s rest b e =
    let none : n - n ≡ 0 = omega arith in
    get_or-append_right s (b ∷ rest) n n 0 (sym e) (omega arith) ∙ ap (λ k. slice_index (b ∷ rest) k) none

at_end : (n : ℕ) (s : List ℕ) → n ≡ length s → IsSplitPoint (s ++ []) n
at_end n s e = (omega (arith, length-append s []), λ some short. absurd (omega (arith, length-append s [])))

at_byte : (n : ℕ) (s rest : List ℕ) (b : ℕ) → n ≡ length s → b < 128 → IsSplitPoint (s ++ b ∷ rest) n
at_byte n s rest b e small =
    let byte = byte_after n s rest b e in
    (omega (arith, length-append s (b ∷ rest)), λ some short wide. absurd (omega arith))

split_more : (n : ℕ) (s more : List ℕ) → n ≡ length s → All (λ b. b < 128) more → IsSplitPoint (s ++ more) n
split_more n s [] e small = at_end n s e
split_more n s (b ∷ more) e small = at_byte n s more b e (All-head IsAsciiByte b more small)

pub split_behind : (n : ℕ) (s more text : List ℕ) → n ≡ length s → All (λ b. b < 128) more → text ≡ s ++ more → IsSplitPoint text n
split_behind n s more text e small is = subst (λ t. IsSplitPoint t n) (sym is) (split_more n s more e small)
