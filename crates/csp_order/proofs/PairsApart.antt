-- The pairs are of two different lists each, and no pair is listed twice.
use Rattle.std.proofs.Common.{arith, ◌≡◌, ◌≢◌, ◌∙◌, sym, ap, subst, ℕ, zero, suc, ◌+◌, ◌≤◌, ◌<◌, ◌==◌, true, not, List, [], ◌∷◌, ◌++◌, length, get_or, take, map, All, AllPairs}
use Rattle.std.specs.List.{flat_map, range_with_len}
use Rattle.std.proofs.lemmas.Bool.{eqb-false, not-true}
use Rattle.std.proofs.lemmas.List.{get_or-take, get_or_default, length-take-le}
use Rattle.std.proofs.lemmas.List.Elements.{All-nil, All-head, All-tail, All-append, All-map, All-filter, All-weaker, filter_passes}
use Rattle.std.proofs.lemmas.List.FromFn.{get_or-range_with_len, length-range_with_len}
use Rattle.std.proofs.lemmas.List.Kept.{AllPairs-cons, AllPairs-filter}
use Rattle.csp_order.specs.Pairs.{pair, others, pairs, IsPair}
use Rattle.csp_order.specs.declared.pair.Pair.{Pair}

-- Lists

module _ {X : Type 0} where
  none_apart : (R : X → X → Type 0) → AllPairs R []
  none_apart R i j d above within = absurd (omega arith)

  head_apart : (R : X → X → Type 0) (x : X) (xs : List X) → AllPairs R (x ∷ xs) → All (R x) xs
  head_apart R x xs apart k d within = apart 0 (suc k) d (omega arith) (omega arith)

  tail_apart : (R : X → X → Type 0) (x : X) (xs : List X) → AllPairs R (x ∷ xs) → AllPairs R xs
  tail_apart R x xs apart i j d above within = apart (suc i) (suc j) d (omega arith) (omega arith)

  both_apart : (R : X → X → Type 0) (xs ys : List X) → AllPairs R xs → AllPairs R ys
      → All (λ x. All (R x) ys) xs → AllPairs R (xs ++ ys)
  both_apart R [] ys one other cross = other
  both_apart R (x ∷ xs) ys one other cross =
      AllPairs-cons R x (xs ++ ys)
      (All-append (R x) xs ys (head_apart R x xs one) (All-head (λ z. All (R z) ys) x xs cross))
      (both_apart R xs ys (tail_apart R x xs one) other (All-tail (λ z. All (R z) ys) x xs cross))

pub each_flat : {X Y : Type 0} (P : Y → Type 0) (f : X → List Y) (xs : List X) → All (λ x. All P (f x)) xs
    → All P (flat_map f xs)
each_flat P f [] each = All-nil P
each_flat P f (x ∷ xs) each =
    All-append P (f x) (flat_map f xs) (All-head (λ z. All P (f z)) x xs each)
    (each_flat P f xs (All-tail (λ z. All P (f z)) x xs each))

-- Numbers

in_range : (P : ℕ → Type 0) (a n : ℕ) → ((k : ℕ) → a ≤ k → k < a + n → P k) → All P (range_with_len a n)
in_range P a n each k d within =
    let small : k < n = omega (arith, length-range_with_len a n) in
    subst P (sym (get_or-range_with_len a n k d small)) (each (a + k) (omega arith) (omega arith))

range_apart : (a n : ℕ) → AllPairs (λ (x y : ℕ). x ≢ y) (range_with_len a n)
range_apart a zero = none_apart (λ (x y : ℕ). x ≢ y)
range_apart a (suc n) =
    AllPairs-cons (λ (x y : ℕ). x ≢ y) a (range_with_len (a + 1) n)
    (in_range (λ (y : ℕ). a ≢ y) (a + 1) n (λ k low high same. absurd (omega arith)))
    (range_apart (a + 1) n)

others_apart : (count first : ℕ) → AllPairs (λ (x y : ℕ). x ≢ y) (others count first)
others_apart count first =
    AllPairs-filter (λ (x y : ℕ). x ≢ y) (λ n. not (n == first)) (range_with_len 1 count) (range_apart 1 count)

-- Rows

abbrev row : ℕ → ℕ → List Pair
row count first = map (pair first) (others count first)

module _ (count : ℕ) where
  row_listed : (first : ℕ) → 1 ≤ first → first ≤ count → All (IsPair count) (row count first)
  row_listed first some few =
      let differ : All (λ n. not (n == first) ≡ true) (others count first) =
      filter_passes (λ n. not (n == first)) (range_with_len 1 count) in
      let within : All (λ n. (1 ≤ n) × (n ≤ count)) (others count first) =
      All-filter (λ n. not (n == first)) (λ n. (1 ≤ n) × (n ≤ count)) (range_with_len 1 count)
      (in_range (λ n. (1 ≤ n) × (n ≤ count)) 1 count (λ k low high. (low, omega arith))) in
      All-map (IsPair count) (pair first) (others count first)
      (λ k d short. record {
        first_some = some;
        first_few = few;
        second_some = (within k d short).0;
        second_few = (within k d short).1;
        differ = eqb-false _ _ (not-true _ (differ k d short));
      })

  pub each_listed : All (IsPair count) (pairs count)
  each_listed =
      each_flat (IsPair count) (row count) (range_with_len 1 count)
      (in_range (λ first. All (IsPair count) (row count first)) 1 count
      (λ first low high. row_listed first low (omega arith)))

  numbers_apart : (first : ℕ) (ns : List ℕ) → AllPairs (λ (x y : ℕ). x ≢ y) ns
      → AllPairs (λ (p q : Pair). p ≢ q) (map (pair first) ns)
  numbers_apart first [] apart = none_apart (λ (p q : Pair). p ≢ q)
  numbers_apart first (n ∷ ns) apart =
      AllPairs-cons (λ (p q : Pair). p ≢ q) (pair first n) (map (pair first) ns)
      (All-map (λ (q : Pair). pair first n ≢ q) (pair first) ns
      (All-weaker (λ (m : ℕ). n ≢ m) (λ (m : ℕ). pair first n ≢ pair first m)
      (λ m other same. other (ap (λ (p : Pair). p.second) same)) ns
      (head_apart (λ (x y : ℕ). x ≢ y) n ns apart)))
      (numbers_apart first ns (tail_apart (λ (x y : ℕ). x ≢ y) n ns apart))

  later : (below a n : ℕ) → below < a → All (λ (p : Pair). below < p.first) (flat_map (row count) (range_with_len a n))
  later below a n above =
      each_flat (λ (p : Pair). below < p.first) (row count) (range_with_len a n)
      (in_range (λ first. All (λ (p : Pair). below < p.first) (row count first)) a n
      (λ first low high. All-map (λ (p : Pair). below < p.first) (pair first) (others count first)
      (λ k d within. omega arith)))

  rows_apart : (a n : ℕ) → AllPairs (λ (p q : Pair). p ≢ q) (flat_map (row count) (range_with_len a n))
  rows_apart a zero = none_apart (λ (p q : Pair). p ≢ q)
  rows_apart a (suc n) =
      let rest : List Pair = flat_map (row count) (range_with_len (a + 1) n) in
      let beyond : All (λ (p : Pair). a < p.first) rest = later a (a + 1) n (omega arith) in
      both_apart (λ (p q : Pair). p ≢ q) (row count a) rest
      (numbers_apart a (others count a) (others_apart count a)) (rows_apart (a + 1) n)
      (All-map (λ (p : Pair). All (λ (q : Pair). p ≢ q) rest) (pair a) (others count a)
      (λ k d within. All-weaker (λ (q : Pair). a < q.first) (λ (q : Pair). pair a (get_or (others count a) k d) ≢ q)
      (λ q above same. let firsts : a ≡ q.first = ap (λ (p : Pair). p.first) same in absurd (omega arith)) rest beyond))

pub pairs_apart : (count : ℕ) → AllPairs (λ (p q : Pair). p ≢ q) (pairs count)
pairs_apart count = rows_apart count 1 count

-- a pair isn't one of those before it
pub others_before : (ps : List Pair) (p : Pair) (place : ℕ) → AllPairs (λ (p q : Pair). p ≢ q) ps → place < length ps
    → p ≡ get_or ps place p → All (λ (q : Pair). q ≢ p) (take place ps)
others_before ps p place apart within is k d short same =
    let early : k < place = omega (arith, length-take-le place ps, short) in
    apart k place p early within
    (get_or_default ps k p d (omega arith) ∙ sym (get_or-take place ps k d early) ∙ same ∙ is)
