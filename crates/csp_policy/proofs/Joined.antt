-- Texts joined by a byte.
use Rattle.std.proofs.Common.{◌≡◌, sym, ap, ℕ, List, [], ◌∷◌, ◌++◌, append-nil}
use Rattle.std.specs.List.{flat_map, join_with_byte}

pub joined : (c : ℕ) (x : List ℕ) (xs : List (List ℕ)) → join_with_byte c (x ∷ xs) ≡ x ++ flat_map (λ y. c ∷ y) xs
joined c x [] = sym (append-nil x)
joined c x (y ∷ xs) = ap (λ rest. x ++ (c ∷ rest)) (joined c y xs)
