-- Words of private contracts: the ways from a list along pairs, each to another list.
use Rattle.std.specs.Prelude.{◌≡◌, ◌≢◌, ◌≤◌, ℕ, ◌==◌, nat_eq, Bool, true, false, List, [], ◌∷◌, map, All, AllPairs, Contains}
use Rattle.std.specs.List.{list_any, IsDistinct}
use Rattle.csp_order.specs.Chains.{IsChain}
use Rattle.csp_order.specs.Pairs.{list_limit, pair}
use Rattle.csp_order.specs.declared.pair.Pair.{Pair}
use Rattle.csp_order.specs.declared.way.Way.{Way}

-- some way ends at this list
abbrev pub is_reached : List Way → ℕ → Bool
is_reached ways list = list_any (λ (way : Way). list == way.end) ways

-- where steps from a list lead
abbrev pub end_of : ℕ → List ℕ → ℕ
end_of first [] = first
end_of first (next ∷ rest) = end_of next rest

-- A way leads from this list along pairs, and comes by no list twice. Each that it comes by is reached.
pub record IsWay (pairs : List Pair) (first : ℕ) (ways : List Way) (way : Way) : Type 0 where
  pub chain : IsChain pairs first way.steps.items
  pub ends : end_of first way.steps.items ≡ way.end
  pub distinct : AllPairs (λ (a b : ℕ). a ≢ b) (first ∷ way.steps.items)
  pub reached : All (λ step. is_reached ways step ≡ true) (first ∷ way.steps.items)

abbrev pub ends : List Way → List ℕ
ends ways = map (λ (way : Way). way.end) ways

-- ways from this list, each to a list of its own
pub record AreWays (pairs : List Pair) (first : ℕ) (ways : List Way) : Type 0 where
  pub each : All (IsWay pairs first ways) ways
  pub begun : is_reached ways first ≡ true
  pub distinct : IsDistinct nat_eq (ends ways)
  pub few : All (λ end. end ≤ list_limit) (ends ways)

-- no pair leads from a list that is reached to one that isn't
abbrev pub IsClosed : List Pair → List Way → Type 0
IsClosed pairs ways = (p : Pair) → Contains pairs p
    → is_reached ways p.first ≡ true → is_reached ways p.second ≡ true

-- a pair leads from the end of one of these ways to a list that isn't reached
pub record GoesOn (pairs : List Pair) (ways : List Way) (way : Way) (next : ℕ) : Type 0 where
  pub among : Contains ways way
  pub leads : Contains pairs (pair way.end next)
  pub unreached : is_reached ways next ≡ false
