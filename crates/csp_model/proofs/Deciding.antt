-- Tests that decide relations, made of the tests of their parts.
use Rattle.std.proofs.Common.{◌≡◌, ◌≢◌, Bool, true, false, not, ◌&&◌, ◌||◌, List, [], ◌∷◌, length, slice_index_or, Option, Some, None, Any, All, Contains, refl, sym, ◌∙◌, inl, inr, ◌⊎◌, subst, is_none, arith}
use Rattle.std.specs.Bool.{Decides}
use Rattle.std.specs.List.{list_any, list_all}
use Rattle.std.proofs.lemmas.Bool.{false≢true, lt-ltb}
use Rattle.std.proofs.lemmas.Bool.Decides.{Decides-and, Decides-or, Decides-like, Decides-by_and}
use Rattle.csp_model.specs.Ascii.{is_nonempty}
use Rattle.csp_model.proofs.AnyCases.{Any-none, Any-here, Any-later, first_or_later}

pub no : {P : Type 0} → (P → ⊥) → Decides false P
no none = (λ h. absurd (false≢true h), λ p. absurd (none p))

pub yes : {P : Type 0} → P → Decides true P
yes p = (λ _. p, λ _. refl)

-- what a decided test shows
pub holds : {P : Type 0} {b : Bool} → Decides b P → b ≡ true → P
holds decided e = decided.0 e

pub fails : {P : Type 0} {b : Bool} → Decides b P → b ≡ false → ¬ P
fails {b = b} decided e p = false≢true (sym e ∙ decided.1 p)

pub implies_decides : {P Q : Type 0} (x y : Bool) → Decides x P → Decides y Q → Decides (not x || y) (P → Q)
implies_decides true y p q = Decides-like y (λ h _. h) (λ f. f (p.0 refl)) q
implies_decides false y p q = yes (λ h. absurd (false≢true (p.1 h)))

pub itself : (b : Bool) → Decides b (b ≡ true)
itself b = (λ h. h, λ h. h)

pub is_false : (b : Bool) → Decides (not b) (b ≡ false)
is_false true = no (λ h. false≢true (sym h))
is_false false = yes refl

pub both3 : {P Q R : Type 0} (x y z : Bool) → Decides x P → Decides y Q → Decides z R
    → Decides (x && (y && z)) (P × Q × R)
both3 {P} {Q} {R} x y z p q r =
    Decides-like (x && (y && z)) (λ (a, b). (a, b.0, b.1)) (λ (a, b, c). (a, (b, c))) (Decides-and x (y && z) p (Decides-and y z q r))

pub both4 : {P Q R S : Type 0} (x y z w : Bool) → Decides x P → Decides y Q → Decides z R → Decides w S
    → Decides (x && (y && (z && w))) (P × Q × R × S)
both4 x y z w p q r s =
    Decides-like (x && (y && (z && w))) (λ (a, b). (a, b.0, b.1, b.2)) (λ (a, b, c, d). (a, (b, c, d))) (Decides-and x (y && (z && w)) p (both3 y z w q r s))

module _ {X : Type 0} where
  pub any_decides : (p : X → Bool) (P : X → Type 0) → ((x : X) → Decides (p x) (P x)) → (xs : List X) → Decides (list_any p xs) (Any P xs)
  any_decides p P each [] = no (Any-none P)
  any_decides p P each (x ∷ xs) =
      Decides-like (p x || list_any p xs) (λ (h : P x ⊎ Any P xs). elim h [ inl here ↦ Any-here P x xs here | inr later ↦ Any-later P x xs later ])
      (first_or_later P x xs) (Decides-or (p x) (list_any p xs) (each x) (any_decides p P each xs))

  pub all_decides : (p : X → Bool) (P : X → Type 0) → ((x : X) → Decides (p x) (P x)) → (xs : List X) → Decides (list_all p xs) (All P xs)
  all_decides p P each xs = Decides-by_and p P (list_all p) each refl (λ _ _. refl) xs

  -- an item that is this one
  pub has_decides : (p : X → Bool) (x : X) → ((y : X) → Decides (p y) (y ≡ x)) → (xs : List X) → Decides (list_any p xs) (Contains xs x)
  has_decides p x each xs =
      Decides-like (list_any p xs)
      (λ (h : Any (λ y. y ≡ x) xs). (h.0, h.2, subst (λ y. slice_index_or xs h.0 y ≡ y) h.4 h.3))
      (λ (h : Contains xs x). (h.0, x, h.1, h.2, refl))
      (any_decides p (λ y. y ≡ x) each xs)

  pub nonempty_decides : (xs : List X) → Decides (is_nonempty xs) (xs ≢ [])
  nonempty_decides [] = no (λ h. h refl)
  nonempty_decides (x ∷ xs) = (λ _ (h : x ∷ xs ≡ []). cc, λ _. lt-ltb 0 (length (x ∷ xs)) (omega arith))

  pub none_decides : (o : Option X) → Decides (is_none o) (o ≡ None)
  none_decides None = yes refl
  none_decides (Some x) = no (λ (h : Some x ≡ None). cc)

-- two tests that follow from each other are one
pub same_bool : (a b : Bool) → (a ≡ true → b ≡ true) → (b ≡ true → a ≡ true) → a ≡ b
same_bool true b ab ba = sym (ab refl)
same_bool false true ab ba = ba refl
same_bool false false ab ba = refl
