-- Whether some item passes one of several tests.
use Rattle.std.proofs.Common.{◌≡◌, ◌∙◌, ap, refl, Bool, true, false, ◌||◌, List, [], ◌∷◌}
use Rattle.std.specs.List.{list_any}

shuffled : (a b x y : Bool) → ((a || b) || (x || y)) ≡ ((a || x) || (b || y))
shuffled true b x y = refl
shuffled false true true y = refl
shuffled false true false y = refl
shuffled false false x y = refl

module _ {X : Type 0} where
  pub any_of_two : (p q t : X → Bool) → ((x : X) → t x ≡ (p x || q x)) → (xs : List X)
      → list_any t xs ≡ (list_any p xs || list_any q xs)
  any_of_two p q t each [] = refl
  any_of_two p q t each (x ∷ xs) =
      ap (λ u. u || list_any t xs) (each x) ∙ ap (λ u. (p x || q x) || u) (any_of_two p q t each xs)
      ∙ shuffled (p x) (q x) (list_any p xs) (list_any q xs)

  pub any_of_three : (p q r t : X → Bool) → ((x : X) → t x ≡ (p x || (q x || r x))) → (xs : List X)
      → list_any t xs ≡ (list_any p xs || (list_any q xs || list_any r xs))
  any_of_three p q r t each xs =
      any_of_two p (λ x. q x || r x) t each xs
      ∙ ap (λ u. list_any p xs || u) (any_of_two q r (λ x. q x || r x) (λ _. refl) xs)
