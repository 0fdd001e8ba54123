-- Of different candidates that all stand in a list there are no more than the list has items.
use Rattle.std.proofs.Common.{◌≡◌, ◌≢◌, ℕ, zero, suc, ◌+◌, ◌-◌, ◌<◌, ◌≤◌, sym, ap, subst, List, [], ◌∷◌, ◌++◌, length, length-append, arith, Any, Contains, Option, Some, None, ◌⊎◌, inl, inr}
use Rattle.std.specs.List.{filter_map, cons_option}
use Rattle.std.proofs.lemmas.List.Elements.{All-contains, Contains-append_cases, Contains-append_left, Contains-append_right}
use Rattle.csp_pick.proofs.PairsMet.{given}

module _ {X : Type 0} where
  contains_tail : (y : X) (ys : List X) (x : X) → Contains (y ∷ ys) x → (y ≡ x) ⊎ Contains ys x
  contains_tail y ys x (zero, within, is) = inl is
  contains_tail y ys x (suc k, within, is) = inr (k, omega arith, is)

  -- the items around one that a list has
  parted : (ys : List X) (x : X) → Contains ys x → (front back : List X) × (ys ≡ front ++ x ∷ back)
  parted [] x (k, within, is) = absurd (omega arith)
  parted (y ∷ ys) x (zero, within, is) = ([], ys, ap (λ z. z ∷ ys) is)
  parted (y ∷ ys) x (suc k, within, is) =
      let rest = parted ys x (k, omega arith, is) in
      (y ∷ rest.0, rest.1, ap (λ zs. y ∷ zs) rest.2)

  -- another one that it has is among them
  among_others : (front back : List X) (x z : X) → z ≢ x → Contains (front ++ x ∷ back) z → Contains (front ++ back) z
  among_others front back x z apart has = elim (Contains-append_cases front (x ∷ back) z has) [
    | inl before ↦ Contains-append_left front back z before
    | inr after ↦ elim (contains_tail x back z after) [
      | inl same ↦ absurd (apart (sym same))
      | inr behind ↦ Contains-append_right front back z behind
    ]
  ]

  pub pigeonhole : (candidate : ℕ → X) (n : ℕ) (ys : List X) → ((j k : ℕ) → j < k → k < n → candidate j ≢ candidate k)
      → ((k : ℕ) → k < n → Contains ys (candidate k)) → n ≤ length ys
  pigeonhole candidate zero ys apart each = omega arith
  pigeonhole candidate (suc n) ys apart each =
      let (front, back, is) = parted ys (candidate n) (each n (omega arith)) in
      let fewer = pigeonhole candidate n (front ++ back) (λ j k low high. apart j k low (omega arith))
      (λ k high. among_others front back (candidate n) (candidate k) (apart k n high (omega arith))
      (subst (λ zs. Contains zs (candidate k)) is (each k (omega arith)))) in
      omega (arith, fewer, ap length is, length-append front back, length-append front (candidate n ∷ back))

-- What some items say

length-filter_map : {X Y : Type 0} (f : X → Option Y) (xs : List X) → length (filter_map f xs) ≤ length xs
length-filter_map f [] = omega arith
length-filter_map f (x ∷ xs) = by_answer (f x) (length-filter_map f xs)
  where
    by_answer : (answer : Option _) → length (filter_map f xs) ≤ length xs → length (cons_option answer (filter_map f xs)) ≤ suc (length xs)
    by_answer None fewer = omega arith
    by_answer (Some y) fewer = omega arith

-- where some item says each candidate from one number on to another, there are no more of these than items that say something
module _ {X Y : Type 0} (say : X → Option Y) (xs : List X) (candidate : ℕ → Y) (first end : ℕ) where
  pub no_more_said : ((j k : ℕ) → j < k → k < end → candidate j ≢ candidate k)
      → ((k : ℕ) → first ≤ k → k < end → Any (λ x. say x ≡ Some (candidate k)) xs) → end ≤ first + length (filter_map say xs)
  no_more_said apart each =
      let fewer = pigeonhole (λ k. candidate (first + k)) (end - first) (filter_map say xs)
      (λ j k low high. apart (first + j) (first + k) (omega arith) (omega arith))
      (λ k high. let (i, x, within, at, says) = each (first + k) (omega arith) (omega arith) in
      All-contains (λ z. (y : Y) → say z ≡ Some y → Contains (filter_map say xs) y) xs x (given say xs) (i, within, at) (candidate (first + k)) says) in
      omega (arith, fewer)

  pub no_more_items : ((j k : ℕ) → j < k → k < end → candidate j ≢ candidate k)
      → ((k : ℕ) → first ≤ k → k < end → Any (λ x. say x ≡ Some (candidate k)) xs) → end ≤ first + length xs
  no_more_items apart each = omega (arith, no_more_said apart each, length-filter_map say xs)
