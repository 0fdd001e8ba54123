-- In a list that is sorted by a key, the items of one key stand together.
use Rattle.std.proofs.Common.{◌≡◌, ℕ, ◌+◌, ◌-◌, ◌<◌, ◌≤◌, Bool, true, false, ◌&&◌, List, length, take, drop, get_or, [], ◌∷◌, zero, suc, add-one, refl, sym, ◌∙◌, ap, inl, inr, All, Contains, IsSortedBy, Ordering, Less, Equal, Greater, is_eq, is_lt, is_le, is_gt, arith, length-take, length-drop, get_or-take, get_or-drop}
use Rattle.std.specs.Cmp.{IsTotalOrder}
use Rattle.std.specs.List.{list_any}
use Rattle.std.specs.List.Sorted.{IsPartitionPoint, IsPartitionedBy, IsStrictlySortedBy}
use Rattle.std.specs.Ordering.{ordering_index, ordering_then, then_cmp, on, ordering_reverse}
use Rattle.std.proofs.lemmas.Bool.{false≢true, cases_lt}
use Rattle.std.proofs.lemmas.List.Folds.{Any-from_list_any, list_any_at}
use Rattle.std.proofs.lemmas.Cmp.{then_total, on_total, tied_back}
use Rattle.std.proofs.lemmas.List.Elements.{All-contains, All-contains_itself, All-drop, All-take}
use Rattle.std.proofs.lemmas.List.Sorted.{searchable_from_sorted, IsNonDecreasingBy-drop}
use Rattle.csp_model.proofs.Deciding.{same_bool}
use Rattle.csp_match.proofs.AnyLaws.{both, first, not_true, second}

lt_down : (o p : Ordering) → ordering_index o ≤ ordering_index p → is_lt p ≡ true → is_lt o ≡ true
lt_down Less p below h = refl
lt_down Equal Less below h = absurd (omega arith)
lt_down Greater Less below h = absurd (omega arith)
lt_down o p below h = absurd (false≢true h)

le_down : (o p : Ordering) → ordering_index o ≤ ordering_index p → is_le p ≡ true → is_le o ≡ true
le_down Greater Less below h = absurd (omega arith)
le_down Greater Equal below h = absurd (omega arith)
le_down o Greater below h = absurd (false≢true h)
le_down o p below h = refl

equal_from : (o : Ordering) → is_lt o ≡ false → is_le o ≡ true → is_eq o ≡ true
equal_from Equal above below = refl
equal_from Less above below = sym above
equal_from Greater above below = below

not_less : (o : Ordering) → is_eq o ≡ true → is_lt o ≡ true → ⊥
not_less Equal same less = false≢true less
not_less o same less = false≢true same

up_to : (o : Ordering) → is_eq o ≡ true → is_le o ≡ false → ⊥
up_to Equal same more = false≢true (sym more)
up_to o same more = false≢true same

module _ {X K : Type 0} {R : K → K → Ordering} (o : IsTotalOrder R) (key : X → K) (k : K) where
  pub less_first : (xs : List X) → IsSortedBy (λ x y. is_lt (R (key x) (key y))) xs → IsPartitionedBy (λ y. is_lt (R (key y) k)) xs
  less_first xs sorted i j d below within h =
      lt_down _ _ (searchable_from_sorted o key xs k sorted i j d below within) h

  pub up_to_first : (i : ℕ) (xs : List X) → IsSortedBy (λ x y. is_lt (R (key x) (key y))) xs → IsPartitionedBy (λ y. is_le (R (key y) k)) (drop i xs)
  up_to_first n xs sorted i j d below within h =
      le_down _ _ (IsNonDecreasingBy-drop (λ y. ordering_index (R (key y) k)) n xs (searchable_from_sorted o key xs k sorted) i j d below within) h

not_up_to : (o : Ordering) (b : Bool) → is_gt o ≡ true → (b ≡ true → is_le o ≡ true) → b ≡ false
not_up_to Greater true more below = sym (below refl)
not_up_to Less b more below = absurd (false≢true more)
not_up_to Equal b more below = absurd (false≢true more)
not_up_to o false more below = refl

-- where the first item has a greater key, each has
pub none_up_to : {X K : Type 0} (R : K → K → Ordering) (key : X → K) (k : K) (xs : List X) (head : X)
    → IsPartitionedBy (λ y. is_le (R (key y) k)) xs → ((d : X) → get_or xs 0 d ≡ head) → is_gt (R (key head) k) ≡ true
    → (i : ℕ) (d : X) → i < length xs → is_le (R (key (get_or xs i d)) k) ≡ false
none_up_to {X} R key k xs head sorted is more i d within =
    not_up_to (R (key head) k) _ more
    (λ h. ap (λ (x : X). is_le (R (key x) k)) (sym (is d)) ∙ sorted 0 i d (omega arith) within h)

not_more : (o : Ordering) → is_gt o ≡ false → is_le o ≡ true
not_more Greater h = sym h
not_more o h = refl

-- where the last item has no greater key, none has
pub all_up_to : {X K : Type 0} (R : K → K → Ordering) (key : X → K) (k : K) (xs : List X) (last : X)
    → IsPartitionedBy (λ y. is_le (R (key y) k)) xs → ((d : X) → get_or xs (length xs - 1) d ≡ last) → is_gt (R (key last) k) ≡ false
    → (i : ℕ) (d : X) → i < length xs → is_le (R (key (get_or xs i d)) k) ≡ true
all_up_to {X} R key k xs last sorted is below i d within =
    sorted i (length xs - 1) d (omega arith) (omega arith) (rw (is d) (not_more (R (key last) k) below))

-- where the items that pass stand first, and one fails, those before it tell where the first that fails stands
module _ {X : Type 0} (p : X → Bool) (n : ℕ) (xs : List X) (sorted : IsPartitionedBy p xs) (within : n < length xs) where
  pub few_sorted : IsPartitionedBy p (take n xs)
  few_sorted i j d below short h =
      let near : j < n = omega (arith, short, length-take n xs) in
      rw (get_or-take n xs i d (omega arith)) (sorted i j d below (omega arith) (rw (get_or-take n xs j d near) at h))

  pub few_tell : (i : ℕ) (x : X) → i ≤ length (take n xs) → ((d : X) → get_or xs n d ≡ x) → p x ≡ false
      → IsPartitionPoint (λ y. p y ≡ true) (λ y. p y ≡ false) (take n xs) i → IsPartitionPoint (λ y. p y ≡ true) (λ y. p y ≡ false) xs i
  few_tell i x bound is fails few = (
    λ k d low high.
        rw (← get_or-take n xs k d (omega (arith, bound, length-take n xs))) (few.0 k d low high),
    λ k d low high. elim (cases_lt k n) [
      | inl near ↦ rw (← get_or-take n xs k d near) (few.1 k d low (omega (arith, length-take n xs)))
      | inr far ↦ not_true (p (get_or xs k d)) (λ h. false≢true (sym (rw (is d) fails) ∙ sorted n k d far high h))
    ],
  )

-- what stands between the items of lesser keys and those of greater ones
pub run_any : {X K : Type 0} (R : K → K → Ordering) (key : X → K) (k : K) (xs : List X) (i j : ℕ)
    → IsPartitionPoint (λ y. is_lt (R (key y) k) ≡ true) (λ y. is_lt (R (key y) k) ≡ false) xs i
    → IsPartitionPoint (λ y. is_le (R (key y) k) ≡ true) (λ y. is_le (R (key y) k) ≡ false) (drop i xs) j
    → (p : X → Bool) → list_any p (take j (drop i xs)) ≡ list_any (λ x. is_eq (R (key x) k) && p x) xs
run_any {X} R key k xs i j lesser upto p =
    let q = λ (x : X). is_eq (R (key x) k) && p x in
    let rest = drop i xs in
    let forward : list_any p (take j rest) ≡ true → list_any q xs ≡ true = λ h.
    let found = Any-from_list_any p (take j rest) h in
    let n = found.0 in
    let x = found.1 in
    let short : n < j = omega (arith, found.2, length-take j rest) in
    let inside : n < length rest = omega (arith, found.2, length-take j rest) in
    let within : i + n < length xs = omega (arith, inside, length-drop i xs) in
    let here : get_or rest n x ≡ x = sym (get_or-take j rest n x short) ∙ found.3 in
    let there : get_or xs (i + n) x ≡ x = sym (get_or-drop i xs n x) ∙ here in
    let less = lesser.1 (i + n) x (omega arith) within in
    let le = upto.0 n x (omega arith) short in
    let same = equal_from (R (key x) k) (rw there at less) (rw here at le) in
    list_any_at q xs (i + n) x within (rw there (both _ _ same found.4)) in
    let back : list_any q xs ≡ true → list_any p (take j rest) ≡ true = λ h.
    let found = Any-from_list_any q xs h in
    let n = found.0 in
    let x = found.1 in
    let same = first (is_eq (R (key x) k)) (p x) found.4 in
    let holds = second (is_eq (R (key x) k)) (p x) found.4 in
    elim (cases_lt n i) [
      | inl under ↦
          let less = lesser.0 n x (omega arith) under in
          absurd (not_less _ same (rw found.3 at less))
      | inr over ↦
          let m = n - i in
          let whole : i + m ≡ n = omega arith in
          let inside : m < length rest = omega (arith, found.2, length-drop i xs) in
          let here : get_or rest m x ≡ x = get_or-drop i xs m x ∙ (ap (λ (a : ℕ). get_or xs a x) whole ∙ found.3) in
          elim (cases_lt m j) [
            | inl short ↦
                list_any_at p (take j rest) m x (omega (arith, inside, short, length-take j rest))
                (rw (get_or-take j rest m x short, here) holds)
            | inr long ↦
                let more = upto.1 m x long inside in
                absurd (up_to _ same (rw here at more))
          ]
    ] in
    same_bool _ _ forward back

-- the keys of a run are level with its key
pub run_level : {X K : Type 0} (R : K → K → Ordering) (key : X → K) (k : K) (xs : List X) (i j : ℕ)
    → IsPartitionPoint (λ y. is_lt (R (key y) k) ≡ true) (λ y. is_lt (R (key y) k) ≡ false) xs i
    → IsPartitionPoint (λ y. is_le (R (key y) k) ≡ true) (λ y. is_le (R (key y) k) ≡ false) (drop i xs) j
    → All (λ x. is_eq (R (key x) k) ≡ true) (take j (drop i xs))
run_level R key k xs i j lesser upto n d within =
    let rest = drop i xs in
    let short : n < j = omega (arith, within, length-take j rest) in
    let inside : n < length rest = omega (arith, within, length-take j rest) in
    let there = get_or-drop i xs n d in
    let less = lesser.1 (i + n) d (omega arith) (omega (arith, inside, length-drop i xs)) in
    let le = rw there at (upto.0 n d (omega arith) short) in
    rw (get_or-take j rest n d short, there) (equal_from _ less le)

-- a list that is sorted by pairs is sorted by their first parts
pub then_less : (o p : Ordering) → is_lt (ordering_then o p) ≡ false → is_lt o ≡ false
then_less Less p h = h
then_less Equal p h = refl
then_less Greater p h = refl

pub by_first : {K V : Type 0} (R : K → K → Ordering) (S : V → V → Ordering) (xs : List (K × V))
    → IsSortedBy (λ x y. is_lt (ordering_then (R x.0 y.0) (S x.1 y.1))) xs
    → IsSortedBy (λ x y. is_lt (R x.0 y.0)) xs
by_first R S xs sorted i d low high = then_less _ _ (sorted i d low high)

reversed : (o : Ordering) → ordering_reverse o ≡ Less → is_lt o ≡ false
reversed Less h = cc
reversed Equal h = refl
reversed Greater h = refl

not_back : {X : Type 0} {R : X → X → Ordering} (o : IsTotalOrder R) (x y : X) → R x y ≡ Less → is_lt (R y x) ≡ false
not_back o x y less = reversed _ (sym (o.antisymm x y) ∙ less)

-- a list that rises strictly is sorted
rising : {X : Type 0} {R : X → X → Ordering} (o : IsTotalOrder R) (xs : List X) → IsStrictlySortedBy R xs
    → (k : ℕ) (d : X) → suc k < length xs → is_lt (R (get_or xs (suc k) d) (get_or xs k d)) ≡ false
unfolding IsStrictlySortedBy
rising o [] up k d within = absurd (omega (arith, within))
rising o (x ∷ []) up k d within = absurd (omega (arith, within))
rising o (x ∷ y ∷ rest) up zero d within = not_back o x y up.0.0
rising o (x ∷ y ∷ rest) up (suc k) d within = rising o (y ∷ rest) up.1 k d (omega (arith, within))

-- pairs that rise strictly are sorted
pub pairs_sorted : {K V : Type 0} {R : K → K → Ordering} {S : V → V → Ordering} (r : IsTotalOrder R) (s : IsTotalOrder S)
    (xs : List (K × V)) → IsStrictlySortedBy (λ x y. ordering_then (R x.0 y.0) (S x.1 y.1)) xs
    → IsSortedBy (λ x y. is_lt (ordering_then (R x.0 y.0) (S x.1 y.1))) xs
pairs_sorted {K} {V} {R} {S} r s xs up =
    let whole : IsTotalOrder (then_cmp (on (λ (x : K × V). x.0) R) (on (λ (x : K × V). x.1) S)) =
    then_total (on_total (λ (x : K × V). x.0) r) (on_total (λ (x : K × V). x.1) s) in
    λ k d low within. rw add-one (rising whole xs up k d (omega arith))

-- a part of a sorted list is sorted
pub part_sorted : {X : Type 0} (lt : X → X → Bool) (i j : ℕ) (xs : List X) → IsSortedBy lt xs → IsSortedBy lt (take j (drop i xs))
part_sorted {X} lt i j xs sorted k d low high =
    let rest = drop i xs in
    let short : k + 1 < j = omega (arith, high, length-take j rest) in
    let within : i + k + 1 < length xs = omega (arith, high, length-take j rest, length-drop i xs) in
    let here : get_or (take j rest) k d ≡ get_or xs (i + k) d = get_or-take j rest k d (omega arith) ∙ get_or-drop i xs k d in
    let next : get_or (take j rest) (k + 1) d ≡ get_or xs (i + k + 1) d =
    get_or-take j rest (k + 1) d short ∙ (get_or-drop i xs (k + 1) d ∙ ap (λ (n : ℕ). get_or xs n d) (omega arith)) in
    rw (here, next) (sorted (i + k) d (omega arith) within)

-- what stands in a part stands in the list
pub part_given : {X : Type 0} (i j : ℕ) (xs : List X) (x : X) → Contains (take j (drop i xs)) x → Contains xs x
part_given i j xs x h =
    All-contains (Contains xs) (take j (drop i xs)) x (All-take (Contains xs) j (drop i xs) (All-drop (Contains xs) i xs (All-contains_itself xs))) h

pub equal_is : (o : Ordering) → is_eq o ≡ true → o ≡ Equal
equal_is Equal h = refl
equal_is o h = absurd (false≢true h)

then_after : (o p : Ordering) → is_lt (ordering_then o p) ≡ false → o ≡ Equal → is_lt p ≡ false
then_after Equal p h same = h
then_after Less p h same = cc
then_after Greater p h same = cc

-- pairs whose first parts are level with one key are sorted by their second parts
second_sorted : {K V : Type 0} {R : K → K → Ordering} (S : V → V → Ordering) (o : IsTotalOrder R) (k : K) (xs : List (K × V))
    → All (λ (x : K × V). is_eq (R x.0 k) ≡ true) xs → IsSortedBy (λ x y. is_lt (ordering_then (R x.0 y.0) (S x.1 y.1))) xs
    → IsSortedBy (λ x y. is_lt (S x.1 y.1)) xs
second_sorted {K} {V} {R} S o k xs level sorted n d low high =
    let x = get_or xs n d in
    let y = get_or xs (n + 1) d in
    let first_level = equal_is (R x.0 k) (level n d (omega arith)) in
    let next_level = equal_is (R y.0 k) (level (n + 1) d (omega arith)) in
    then_after (R y.0 x.0) (S y.1 x.1) (sorted n d low high) (o.congr y.0 k x.0 next_level ∙ tied_back o x.0 k first_level)

-- a run of one key is sorted by its second parts
pub run_sorted : {K V : Type 0} {R : K → K → Ordering} (S : V → V → Ordering) (o : IsTotalOrder R) (k : K) (xs : List (K × V)) (i j : ℕ)
    → All (λ (x : K × V). is_eq (R x.0 k) ≡ true) (take j (drop i xs))
    → IsSortedBy (λ x y. is_lt (ordering_then (R x.0 y.0) (S x.1 y.1))) xs
    → IsSortedBy (λ x y. is_lt (S x.1 y.1)) (take j (drop i xs))
run_sorted {K} {V} {R} S o k xs i j level sorted =
    second_sorted S o k (take j (drop i xs)) level
    (part_sorted (λ (x y : K × V). is_lt (ordering_then (R x.0 y.0) (S x.1 y.1))) i j xs sorted)
