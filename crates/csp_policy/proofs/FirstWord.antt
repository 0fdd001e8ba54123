-- The first word of a text.
use Rattle.std.proofs.Common.{arith, refl, sym, ap, ◌∙◌, ◌≡◌, ◌≢◌, ◌<◌, ◌+◌, ◌==◌, ℕ, Bool, true, false, cond, List, [], ◌∷◌, take, drop, length, position, Some, None, nat_lt, get_or, subst, ◌≤◌}
use Rattle.std.specs.Char.{is_ascii_whitespace}
use Rattle.std.specs.List.{position_or_len}
use Rattle.std.proofs.lemmas.Grind.{common_steps}
use Rattle.std.proofs.lemmas.List.{drop_more}
use Rattle.std.proofs.lemmas.List.Sums.{passes_at_first, fails_before_first, split_at_first}
use Rattle.csp_model.specs.Ascii.{skip_while, words}
use Rattle.csp_model.proofs.SkipLaws.{skip_while-cons}
use Rattle.csp_model.proofs.WordLaws.{IsSolid, words-space, one_word, word_before}

pub words_skip : (s : List ℕ) → words (skip_while is_ascii_whitespace s) ≡ words s
words_skip [] = refl
words_skip (b ∷ s) = ap words (skip_while-cons is_ascii_whitespace b s) ∙ elim (is_ascii_whitespace b) as (λ t. is_ascii_whitespace b ≡ t → words (cond t (skip_while is_ascii_whitespace s) (b ∷ s)) ≡ words (b ∷ s)) [
  | true ↦ λ h. words_skip s ∙ sym (words-space b s h)
  | false ↦ λ h. refl
] refl

found_at : (b : Bool) (n at : ℕ) → cond b (Some n) None ≡ Some at → (b ≡ true) × (n ≡ at)
found_at true n at h = (refl, cc)
found_at false n at h = cc

not_found : (b : Bool) (n : ℕ) → cond b (Some n) None ≡ None → b ≡ false
not_found true n h = cc
not_found false n h = refl

begins_solid : (b : ℕ) (s : List ℕ) → is_ascii_whitespace b ≡ false → position is_ascii_whitespace (b ∷ s) ≢ Some 0
begins_solid b s h k =
    let at = found_at (nat_lt (position_or_len is_ascii_whitespace (b ∷ s)) (length (b ∷ s))) (position_or_len is_ascii_whitespace (b ∷ s)) 0 k in
    grind (arith, common_steps, at.1)

-- a trimmed text is empty, or begins with a byte that is no whitespace
pub skip_begins : (s : List ℕ) → position is_ascii_whitespace (skip_while is_ascii_whitespace s) ≢ Some 0
skip_begins [] h = cc
skip_begins (b ∷ s) h = elim (is_ascii_whitespace b) as (λ t. is_ascii_whitespace b ≡ t → position is_ascii_whitespace (cond t (skip_while is_ascii_whitespace s) (b ∷ s)) ≢ Some 0) [
  | true ↦ λ k. skip_begins s
  | false ↦ λ k. begins_solid b s k
] refl (sym (ap (position is_ascii_whitespace) (skip_while-cons is_ascii_whitespace b s)) ∙ h)

abbrev first_space : List ℕ → ℕ
first_space s = position_or_len is_ascii_whitespace s

before_space : (s : List ℕ) → first_space s < length s → first_space s ≢ 0 → words s ≡ take (first_space s) s ∷ words (drop (first_space s) s)
before_space s within some =
    let long : 0 < length (take (first_space s) s) = grind (arith, common_steps) in
    let solid : IsSolid (take (first_space s) s) = λ k d below. let fails = fails_before_first is_ascii_whitespace s k d (grind (arith, common_steps)) in grind (arith, common_steps) in
    let space = passes_at_first is_ascii_whitespace s 0 within in
    let rest = words-space (get_or s (first_space s) 0) (drop (first_space s + 1) s) space in
    ap words (split_at_first is_ascii_whitespace s 0 within) ∙ word_before (take (first_space s) s) (get_or s (first_space s) 0) (drop (first_space s + 1) s) long solid space
    ∙ ap (λ ws. take (first_space s) s ∷ ws) (sym (ap words (drop_more s (first_space s) 0 within) ∙ rest))

-- the word before the first whitespace
pub word_at : (s : List ℕ) (at : ℕ) → position is_ascii_whitespace s ≡ Some at → at ≢ 0 → words s ≡ take at s ∷ words (drop at s)
word_at s at h k =
    let found = found_at (nat_lt (first_space s) (length s)) (first_space s) at h in
    let within : first_space s < length s = grind (arith, found.0) in
    subst (λ n. words s ≡ take n s ∷ words (drop n s)) found.1 (before_space s within (λ e. k (sym found.1 ∙ e)))

-- a text without whitespace is one word
pub word_alone : (s : List ℕ) → position is_ascii_whitespace s ≡ None → length s ≢ 0 → words s ≡ s ∷ []
word_alone s h k =
    let none = not_found (nat_lt (first_space s) (length s)) (first_space s) h in
    let past : length s ≤ first_space s = grind (arith, none) in
    one_word s (omega (arith, k)) (λ i d below. fails_before_first is_ascii_whitespace s i d (omega arith))

pub no_words : (s : List ℕ) → (length s == 0) ≡ true → words s ≡ []
no_words [] h = refl
no_words (b ∷ s) h = absurd (let n : length (b ∷ s) ≡ 0 = grind (arith, h) in omega (arith, n))
