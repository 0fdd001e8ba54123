-- A fold that looks at each byte, as the test of all bytes.
use Rattle.std.proofs.Common.{◌≡◌, ◌&&◌, refl, ℕ, Bool, true, false, List, [], ◌∷◌}
use Rattle.std.specs.List.{fold, list_all}

stays_false : (p : ℕ → Bool) (xs : List ℕ) → fold (λ all x. all && p x) false xs ≡ false
stays_false p [] = refl
stays_false p (x ∷ xs) = stays_false p xs

pub folded : (p : ℕ → Bool) (xs : List ℕ) → fold (λ all x. all && p x) true xs ≡ list_all p xs
folded p [] = refl
folded p (x ∷ xs) = elim (p x) as (λ b. fold (λ all x. all && p x) b xs ≡ (b && list_all p xs)) [
  | true ↦ folded p xs
  | false ↦ stays_false p xs
]
