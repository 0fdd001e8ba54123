-- Something holds of some element of a list: of the first, or of a later one.
use Rattle.std.proofs.Common.{◌≡◌, ℕ, zero, suc, List, [], ◌∷◌, length, ◌<◌, slice_index_or, Any, refl, sym, arith, inl, inr, ◌⊎◌, subst}

module _ {X : Type 0} (P : X → Type 0) where
  pub Any-none : Any P [] → ⊥
  Any-none some = omega (arith, some.2)

  pub Any-here : (x : X) (xs : List X) → P x → Any P (x ∷ xs)
  Any-here x xs here = (0, x, omega arith, refl, here)

  pub Any-later : (x : X) (xs : List X) → Any P xs → Any P (x ∷ xs)
  Any-later x xs some = (suc some.0, some.1, omega (arith, some.2), some.3, some.4)

  cases_at : (k : ℕ) (y x : X) (xs : List X) → k < length (x ∷ xs) → slice_index_or (x ∷ xs) k y ≡ y → P y → P x ⊎ Any P xs
  cases_at zero y x xs below is holds = inl (subst P (sym is) holds)
  cases_at (suc k) y x xs below is holds = inr (k, y, omega arith, is, holds)

  pub first_or_later : (x : X) (xs : List X) → Any P (x ∷ xs) → P x ⊎ Any P xs
  first_or_later x xs some = cases_at some.0 some.1 x xs some.2 some.3 some.4
