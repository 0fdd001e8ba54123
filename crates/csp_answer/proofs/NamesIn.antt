-- A set of names grows by one, and a list is gone over that leaves out those of a set.
use Rattle.std.proofs.Common.{arith, ◌≡◌, ◌∙◌, sym, ap, ap₂, refl, ℕ, ◌+◌, ◌<◌, ◌==◌, Bool, true, false, ◌||◌, not, cond, List, [], ◌∷◌, ◌++◌, length, get_or, take}
use Rattle.std.specs.List.{list_any}
use Rattle.std.specs.Ordering.{is_eq, nat_cmp}
use Rattle.std.proofs.lemmas.Bool.Decides.{nat_tests}
use Rattle.std.proofs.lemmas.List.{append-nil, take_more}
use Rattle.std.proofs.lemmas.List.Folds.{list_any-append}
use Rattle.std.proofs.lemmas.List.Elements.{filter-append}
use Rattle.csp_answer.specs.Asking.{names_but}

level : (x n : ℕ) → is_eq (nat_cmp x n) ≡ (n == x)
level x n = grind (arith, nat_tests)

or_first : (a b : Bool) → cond a true b ≡ (b || (a || false))
or_first true true = refl
or_first true false = refl
or_first false true = refl
or_first false false = refl

pub one_more_in : (names : List ℕ) (i n : ℕ) (before after : Bool) → i < length names
    → after ≡ cond (is_eq (nat_cmp (get_or names i 0) n)) true before → before ≡ list_any (λ m. n == m) (take i names)
    → after ≡ list_any (λ m. n == m) (take (i + 1) names)
one_more_in names i n before after within gains so_far =
    gains ∙ or_first (is_eq (nat_cmp (get_or names i 0) n)) before
    ∙ ap₂ (λ (b d : Bool). b || (d || false)) so_far (level (get_or names i 0) n)
    ∙ sym (ap (list_any (λ m. n == m)) (take_more names i 0 within)
    ∙ list_any-append (λ m. n == m) (take i names) (get_or names i 0 ∷ []))

one_left : (names others : List ℕ) (i : ℕ) (b : Bool) → i < length names → list_any (λ m. get_or names i 0 == m) others ≡ b
    → names_but (take (i + 1) names) others ≡ names_but (take i names) others ++ cond (not b) (get_or names i 0 ∷ []) []
one_left names others i b within is =
    ap (λ ns. names_but ns others) (take_more names i 0 within)
    ∙ filter-append (λ n. not (list_any (λ m. n == m) others)) (take i names) (get_or names i 0 ∷ [])
    ∙ ap (λ (d : Bool). names_but (take i names) others ++ cond (not d) (get_or names i 0 ∷ []) []) is

pub one_is_left : (names others left : List ℕ) (i : ℕ) → i < length names → list_any (λ m. get_or names i 0 == m) others ≡ false
    → left ≡ names_but (take i names) others → left ++ get_or names i 0 ∷ [] ≡ names_but (take (i + 1) names) others
one_is_left names others left i within is so_far = ap (λ ns. ns ++ get_or names i 0 ∷ []) so_far ∙ sym (one_left names others i false within is)

pub one_is_out : (names others left : List ℕ) (i : ℕ) → i < length names → list_any (λ m. get_or names i 0 == m) others ≡ true
    → left ≡ names_but (take i names) others → left ≡ names_but (take (i + 1) names) others
one_is_out names others left i within is so_far =
    so_far ∙ sym (append-nil (names_but (take i names) others)) ∙ sym (one_left names others i true within is)
