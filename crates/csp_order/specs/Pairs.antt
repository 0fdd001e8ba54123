-- The pairs of lists, by their numbers, which count from 1.
use Rattle.std.specs.Prelude.{◌≢◌, ◌≤◌, ℕ, ◌==◌, not, List, map, filter}
use Rattle.std.specs.List.{flat_map, range_with_len}
use Rattle.csp_order.specs.declared.pair.Pair.{Pair}

-- how many lists are put in order at most
abbrev pub list_limit : ℕ
list_limit = 16

abbrev pub pair : ℕ → ℕ → Pair
pair first second = record { first = first; second = second }

-- the numbers of so many lists, but for this one
abbrev pub others : ℕ → ℕ → List ℕ
others count first = filter (λ n. not (n == first)) (range_with_len 1 count)

-- the pairs of two different lists, by the first and then by the second
abbrev pub pairs : ℕ → List Pair
pairs count = flat_map (λ first. map (pair first) (others count first)) (range_with_len 1 count)

-- two different lists, of so many
pub record IsPair (count : ℕ) (p : Pair) : Type 0 where
  pub first_some : 1 ≤ p.first
  pub first_few : p.first ≤ count
  pub second_some : 1 ≤ p.second
  pub second_few : p.second ≤ count
  pub differ : p.second ≢ p.first
