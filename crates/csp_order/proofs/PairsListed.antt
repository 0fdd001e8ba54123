-- The pairs so far, row by row.
use Rattle.std.proofs.Common.{arith, ◌≡◌, ◌≢◌, ◌∙◌, sym, ap, ℕ, zero, suc, ◌+◌, ◌-◌, ◌≤◌, ◌==◌, Bool, not, cond, List, [], ◌∷◌, ◌++◌, map, filter, append-nil, eq-eqb, ne_eqb}
use Rattle.std.specs.List.{flat_map, range_with_len}
use Rattle.std.proofs.lemmas.List.{map-append}
use Rattle.std.proofs.lemmas.List.Concat.{flat_map-append}
use Rattle.std.proofs.lemmas.List.Elements.{filter-append}
use Rattle.csp_order.specs.Pairs.{pair, others}
use Rattle.csp_order.specs.declared.pair.Pair.{Pair}

-- the numbers below this one, from 1 on
abbrev pub below : ℕ → List ℕ
below n = range_with_len 1 (n - 1)

-- the pairs of a first list with those below a second
abbrev pub row_below : ℕ → ℕ → List Pair
row_below first second = map (pair first) (filter (λ n. not (n == first)) (below second))

-- the pairs of the first lists below this one
abbrev pub rows_below : ℕ → ℕ → List Pair
rows_below count first = flat_map (λ f. map (pair f) (others count f)) (below first)

range_more : (a n : ℕ) → range_with_len a (suc n) ≡ range_with_len a n ++ (a + n) ∷ []
range_more a zero = ap (λ m. m ∷ []) (omega arith)
range_more a (suc n) =
    ap (λ ms. a ∷ ms) (range_more (a + 1) n
    ∙ ap (λ m. range_with_len (a + 1) n ++ m ∷ []) (omega arith))

pub below_more : (n : ℕ) → 1 ≤ n → below (n + 1) ≡ below n ++ n ∷ []
below_more n h =
    let length_is : n + 1 - 1 ≡ suc (n - 1) = omega arith in
    let last_is : 1 + (n - 1) ≡ n = omega arith in
    ap (range_with_len 1) length_is ∙ range_more 1 (n - 1) ∙ ap (λ m. below n ++ m ∷ []) last_is

-- what is made of the numbers below the next is what is made of those below this one, and what this one gives
row_next : (first second : ℕ) → 1 ≤ second → row_below first (second + 1)
    ≡ row_below first second ++ map (pair first) (filter (λ n. not (n == first)) (second ∷ []))
row_next first second h =
    ap (λ ns. map (pair first) (filter (λ n. not (n == first)) ns)) (below_more second h)
    ∙ ap (map (pair first)) (filter-append (λ n. not (n == first)) (below second) (second ∷ []))
    ∙ map-append (pair first) (filter (λ n. not (n == first)) (below second))
    (filter (λ n. not (n == first)) (second ∷ []))

one : ℕ → ℕ → Bool → List Pair
one first second differ = map (pair first) (cond differ (second ∷ []) [])

pub row_more : (first second : ℕ) → 1 ≤ second → second ≢ first
    → row_below first (second + 1) ≡ row_below first second ++ pair first second ∷ []
unfolding one
row_more first second h differ =
    row_next first second h
    ∙ ap (λ (b : Bool). row_below first second ++ one first second (not b)) (ne_eqb second first differ)

pub row_skips : (first second : ℕ) → 1 ≤ second → second ≡ first
    → row_below first (second + 1) ≡ row_below first second
unfolding one
row_skips first second h same =
    row_next first second h
    ∙ ap (λ (b : Bool). row_below first second ++ one first second (not b)) (eq-eqb second first same)
    ∙ append-nil (row_below first second)

pub rows_more : (count first : ℕ) → 1 ≤ first
    → rows_below count (first + 1) ≡ rows_below count first ++ row_below first (count + 1)
rows_more count first h =
    let length_is : count + 1 - 1 ≡ count = omega arith in
    ap (flat_map (λ f. map (pair f) (others count f))) (below_more first h)
    ∙ flat_map-append (λ f. map (pair f) (others count f)) (below first) (first ∷ [])
    ∙ ap (λ (ps : List Pair). rows_below count first ++ ps) (append-nil (map (pair first) (others count first)))
    ∙ ap (λ (n : ℕ). rows_below count first ++ map (pair first) (filter (λ m. not (m == first)) (range_with_len 1 n)))
    (sym length_is)
