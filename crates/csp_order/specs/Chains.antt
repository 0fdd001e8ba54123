-- Chains of pairs of lists.
use Rattle.std.specs.Prelude.{◌≢◌, ⊤, ℕ, List, [], ◌∷◌, ◌++◌, AllPairs, Contains}
use Rattle.csp_order.specs.Pairs.{pair}
use Rattle.csp_order.specs.declared.pair.Pair.{Pair}

-- from the first list on, each list and the next are one of these pairs
abbrev pub IsChain : List Pair → ℕ → List ℕ → Type 0
IsChain pairs first [] = ⊤
IsChain pairs first (next ∷ rest) = Contains pairs (pair first next) × IsChain pairs next rest

-- no chain leads from the first list of a pair to the second
abbrev pub IsApart : List Pair → Pair → Type 0
IsApart pairs ends = (lists : List ℕ) → ¬ IsChain pairs ends.first (lists ++ ends.second ∷ [])

-- a chain leads from the first list of a pair to the second, through these: one at least, and no list twice
pub record LeadsThrough (pairs : List Pair) (ends : Pair) (lists : List ℕ) : Type 0 where
  pub some : lists ≢ []
  pub distinct : AllPairs (λ (a b : ℕ). a ≢ b) (ends.first ∷ (lists ++ ends.second ∷ []))
  pub chain : IsChain pairs ends.first (lists ++ ends.second ∷ [])
