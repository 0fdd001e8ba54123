-- What a text's windows of a word's length say of whether it has the word in it, in letters of either case.
use Rattle.std.proofs.Common.{◌≡◌, ℕ, ◌<◌, ◌==◌, ◌||◌, ◌&&◌, Bool, true, false, List, [], ◌∷◌, length, take, drop, refl, ap, sym, ◌∙◌, arith}
use Rattle.std.specs.Char.{to_ascii_lowercase}
use Rattle.std.proofs.lemmas.Bool.{and_parts, false≢true}
use Rattle.std.proofs.lemmas.Bool.Decides.{Decides-eqb}
use Rattle.std.proofs.lemmas.List.{take-map, length-map}
use Rattle.csp_model.specs.Ascii.{lower}
use Rattle.csp_model.specs.DecideNonces.{begins, has_word}

begins_is : (word text : List ℕ) → begins word text ≡ true → take (length word) text ≡ word
begins_is [] text b = refl
begins_is (w ∷ word) [] b = absurd (false≢true b)
begins_is (w ∷ word) (c ∷ text) b =
    let parts = and_parts (c == w) (begins word text) b in
    let first : c ≡ w = (Decides-eqb c w).0 parts.0 in
    let rest : take (length word) text ≡ word = begins_is word text parts.1 in
    cc

is_begun : (word text : List ℕ) → take (length word) text ≡ word → begins word text ≡ true
is_begun [] text e = refl
is_begun (w ∷ word) [] e = absurd (let none : ⊥ = cc in none)
is_begun (w ∷ word) (c ∷ text) e =
    let first : c ≡ w = cc in
    let rest : take (length word) text ≡ word = cc in
    ap (λ (b : Bool). b && begins word text) ((Decides-eqb c w).1 first) ∙ is_begun word text rest

too_short : (word text : List ℕ) → length text < length word → begins word text ≡ false
too_short [] text h = absurd (omega arith)
too_short (w ∷ word) [] h = refl
too_short (w ∷ word) (c ∷ text) h = elim (c == w) as (λ b. (b && begins word text) ≡ false) [
  | true ↦ too_short word text (omega arith)
  | false ↦ refl
]

has_begun : (word text : List ℕ) → begins word text ≡ true → has_word word text ≡ true
has_begun word [] b = b
has_begun word (c ∷ text) b = ap (λ (x : Bool). x || has_word word text) b

has_none : (word text : List ℕ) → length text < length word → has_word word text ≡ false
has_none word [] h = too_short word [] h
has_none word (c ∷ text) h =
    ap (λ (b : Bool). b || has_word word text) (too_short word (c ∷ text) h) ∙ has_none word text (omega arith)

-- The windows

front_lower : (word text : List ℕ) → take (length (lower word)) (lower text) ≡ lower (take (length word) text)
front_lower word text =
    ap (λ (n : ℕ). take n (lower text)) (length-map word to_ascii_lowercase) ∙ take-map to_ascii_lowercase (length word) text

-- the first window is the word
pub first_window_is : (word text : List ℕ) → lower (take (length word) text) ≡ lower word → has_word (lower word) (lower text) ≡ true
first_window_is word text e =
    has_begun (lower word) (lower text) (is_begun (lower word) (lower text) (front_lower word text ∙ e))

-- it is not
pub first_window_isn't : (word text : List ℕ) → (lower (take (length word) text) ≡ lower word → ⊥)
    → has_word (lower word) (lower (drop 1 text)) ≡ has_word (lower word) (lower text)
first_window_isn't word [] other = refl
first_window_isn't word (c ∷ text) other =
    elim (begins (lower word) (lower (c ∷ text))) as (λ b. begins (lower word) (lower (c ∷ text)) ≡ b
    → has_word (lower word) (lower text) ≡ (b || has_word (lower word) (lower text))) [
      | true ↦ λ b. absurd (other (sym (front_lower word (c ∷ text)) ∙ begins_is (lower word) (lower (c ∷ text)) b))
      | false ↦ λ b. refl
    ] refl

-- no window is left
pub no_window_is : (word text : List ℕ) → length text < length word → has_word (lower word) (lower text) ≡ false
no_window_is word text h =
    has_none (lower word) (lower text) (omega (arith, length-map word to_ascii_lowercase, length-map text to_ascii_lowercase))
