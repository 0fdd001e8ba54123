-- The words of a text, one after the other.
use Rattle.std.proofs.Common.{◌≡◌, ◌<◌, ◌∙◌, ap, arith, ℕ, true, false, List, [], ◌∷◌, ◌++◌, length, All}
use Rattle.std.specs.List.{slice_split, filter}
use Rattle.std.specs.Char.{is_ascii_whitespace}
use Rattle.std.proofs.lemmas.Grind.{common_steps}
use Rattle.std.proofs.lemmas.List.Splits.{slice_split-cons_yes, slice_split_none, slice_split_at}
use Rattle.csp_model.specs.Ascii.{words, is_nonempty}

-- whitespace before a text leaves its words
pub words-space : (b : ℕ) (s : List ℕ) → is_ascii_whitespace b ≡ true → words (b ∷ s) ≡ words s
words-space b s h = ap (filter is_nonempty) (slice_split-cons_yes is_ascii_whitespace b s h)

kept_first : (x : List ℕ) (parts : List (List ℕ)) → 0 < length x → filter is_nonempty (x ∷ parts) ≡ x ∷ filter is_nonempty parts
kept_first [] parts some = absurd (omega arith)
kept_first (b ∷ x) parts some = grind (arith, common_steps)

-- the bytes of a word
abbrev pub IsSolid : List ℕ → Type 0
IsSolid x = All (λ b. is_ascii_whitespace b ≡ false) x

-- a text without whitespace is one word
pub one_word : (x : List ℕ) → 0 < length x → IsSolid x → words x ≡ x ∷ []
one_word x some all = ap (filter is_nonempty) (slice_split_none is_ascii_whitespace x all) ∙ kept_first x [] some

-- a word ends at whitespace
pub word_before : (x : List ℕ) (y : ℕ) (rest : List ℕ) → 0 < length x → IsSolid x → is_ascii_whitespace y ≡ true → words (x ++ y ∷ rest) ≡ x ∷ words rest
word_before x y rest some all space =
    ap (filter is_nonempty) (slice_split_at is_ascii_whitespace x y rest all space) ∙ kept_first x (slice_split is_ascii_whitespace rest) some
