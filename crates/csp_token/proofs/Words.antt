-- What a split at whitespace yields is the words of the text.
use Rattle.std.proofs.Common.{◌≡◌, ◌<◌, List, [], ◌∷◌, ◌++◌, ℕ, length, get_or, true, false, sym, refl, ap, ◌∙◌, arith, append-nil, inl, inr}
use Rattle.std.specs.List.{AllPass}
use Rattle.std.specs.Char.{is_ascii_whitespace}
use Rattle.std.specs.Str.{NoCharPasses}
use Rattle.std.specs.Str.Iter.{split_ascii_whitespace_steps, split_ascii_whitespace_text, IsAsciiSeparator}
use Rattle.std.proofs.lemmas.Bool.{cases_lt}
use Rattle.std.proofs.lemmas.Grind.{common_steps}
use Rattle.std.proofs.lemmas.Iterator.{YieldsList}
use Rattle.std.proofs.lemmas.Iterator.Consumers.{YieldsList-from_shown}
use Rattle.std.proofs.lemmas.List.Elements.{All-from_get_or, All-head, All-tail}
use Rattle.std.proofs.lemmas.Str.{NoCharPasses-byte}
use Rattle.csp_model.specs.Ascii.{words}
use Rattle.csp_model.proofs.WordLaws.{IsSolid, words-space, one_word, word_before}

gap_passed : (gap s : List ℕ) → AllPass is_ascii_whitespace gap → words (gap ++ s) ≡ words s
gap_passed [] s h = refl
gap_passed (b ∷ gap) s h =
    words-space b (gap ++ s) (All-head (λ x. is_ascii_whitespace x ≡ true) b gap h) ∙ gap_passed gap s (All-tail (λ x. is_ascii_whitespace x ≡ true) b gap h)

only_gap : (s : List ℕ) → AllPass is_ascii_whitespace s → words s ≡ []
only_gap s h = ap words (sym (append-nil s)) ∙ gap_passed s [] h

pub solid : (x : List ℕ) → NoCharPasses is_ascii_whitespace x → IsSolid x
solid x h = All-from_get_or (λ b. is_ascii_whitespace b ≡ false) x 0 (λ i within. elim (cases_lt (get_or x i 0) 128) [
  | inl lt ↦ NoCharPasses-byte is_ascii_whitespace x i h within lt
  | inr ge ↦ grind (arith, common_steps)
])

first_word : (x sep rest : List ℕ) → 0 < length x → NoCharPasses is_ascii_whitespace x → IsAsciiSeparator sep rest → words (x ++ (sep ++ rest)) ≡ x ∷ words rest
first_word x [] [] some h is = rw append-nil (one_word x some (solid x h))
first_word x [] (r ∷ rest) some h is = absurd (let e = is.2 refl in omega (arith, e))
first_word x (y ∷ []) rest some h is = word_before x y rest some (solid x h) (All-head (λ b. is_ascii_whitespace b ≡ true) y [] is.0)
first_word x (y ∷ z ∷ sep) rest some h is = absurd (let e = is.1 in omega (arith, e))

pub YieldsList-words : {s : _} (bs : List ℕ) → split_ascii_whitespace_text s ≡ bs → YieldsList split_ascii_whitespace_steps (λ x. x.now) s (words bs)
YieldsList-words {s} bs is = rw (← is) (YieldsList-from_shown split_ascii_whitespace_steps (λ x. x.now) (λ s. words (split_ascii_whitespace_text s))
    (λ s t h. ap length (only_gap (split_ascii_whitespace_text s) h.0))
    (λ s x t h. let gap = h.3.0 in let sep = h.3.1 in
    rw h.3.2 (gap_passed gap (x.now ++ (sep ++ split_ascii_whitespace_text t)) h.3.3 ∙ first_word x.now sep (split_ascii_whitespace_text t) h.0 h.1 h.3.4)) s)
