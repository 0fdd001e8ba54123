-- The last part of a text.
use Rattle.std.proofs.Common.{◌≡◌, List, [], ◌∷◌, ℕ, map, Bor, Some, None, refl}
use Rattle.std.specs.List.{last_or}
use Rattle.std.specs.Option.{unwrap_or}

abbrev last_part : List (List ℕ) → List ℕ
last_part parts = unwrap_or (last_or None parts) []

last_from : (x : Bor (List ℕ)) (xs : List (Bor (List ℕ))) (l : Bor (List ℕ)) → Some l ≡ last_or (Some x) xs → l.now ≡ last_part (map (λ p. p.now) (x ∷ xs))
last_from x [] l e = let same : l ≡ x = cc e in rw same refl
last_from x (y ∷ ys) l e = last_from y ys l e

-- the last of the parts
pub last_shown : (xs : List (Bor (List ℕ))) (parts : List (List ℕ)) (l : Bor (List ℕ)) → map (λ p. p.now) xs ≡ parts → Some l ≡ last_or None xs → l.now ≡ last_part parts
last_shown [] parts l shown e = absurd (cc e)
last_shown (x ∷ xs) parts l shown e = rw (← shown) (last_from x xs l e)
