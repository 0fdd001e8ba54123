use Rattle.std.proofs.Common.{rules, ◌≡◌, ℕ, ◌<◌, true, List, [], ◌∷◌, suc, length, get_or, add-one, sym, Ordering, Less, is_lt, refl, arith}
use Rattle.std.specs.Cmp.{IsTotalOrder}
use Rattle.std.specs.List.{AllByRecursion}
use Rattle.std.specs.List.Sorted.{IsStrictlySortedBy}
use Rattle.std.proofs.lemmas.Fn.{always_returns_same}
use Rattle.std.proofs.lemmas.Bool.{false≢true, MatchBool-at_true}
use Rattle.csp_match.proofs.multimap.rises.Goals as goal

less_is : (o : Ordering) → is_lt o ≡ true → o ≡ Less
less_is Less h = refl
less_is o h = absurd (false≢true h)

module _ {X : Type 0} {R : X → X → Ordering} (o : IsTotalOrder R) where
  abbrev Climbs : List X → Type 0
  Climbs xs = (k : ℕ) (d : X) → suc k < length xs → is_lt (R (get_or xs k d) (get_or xs (suc k) d)) ≡ true

  behind : (x : X) (xs : List X) → Climbs (x ∷ xs) → Climbs xs
  behind x xs up k d within = up (suc k) d (omega (arith, within))

  next : (x y : X) (xs : List X) → Climbs (x ∷ y ∷ xs) → R x y ≡ Less
  next x y xs up = less_is (R x y) (up 0 x (omega arith))

  -- what is below the first item of a list that climbs is below them all
  below : (x y : X) (xs : List X) → R x y ≡ Less → Climbs (y ∷ xs) → AllByRecursion (λ z. R x z ≡ Less) (y ∷ xs)
  below x y [] less up = (less, tt)
  below x y (z ∷ xs) less up = (less, below x z xs (o.trans x y z less (next y z xs up)) (behind y (z ∷ xs) up))

  climbs_strictly : (xs : List X) → Climbs xs → IsStrictlySortedBy R xs
  unfolding IsStrictlySortedBy
  climbs_strictly [] up = tt
  climbs_strictly (x ∷ []) up = (tt, tt)
  climbs_strictly (x ∷ y ∷ xs) up =
      (below x y xs (next x y xs up) (behind x (y ∷ xs) up), climbs_strictly (y ∷ xs) (behind x (y ∷ xs) up))

pub returns : goal.returns
returns g c told =
    let pairs = MatchBool-at_true _ _ told
    (c.is_sorted_by.ensures.cases (λ x y. is_lt (g.T.Ord.cmp x y)) (always_returns_same _ _ _ (λ a r f h. search rules))) in
    climbs_strictly g.met.T.Ord.total c.args.items.now (λ k d within. rw add-one at (sym (pairs k d (omega arith))))
