-- Places of entries in order, of which some are outer ones of others.
use Rattle.std.proofs.Common.{◌≡◌, ℕ, ◌+◌, ◌-◌, ◌<◌, ◌≤◌, true, false, List, [], ◌∷◌, ◌++◌, length, get_or, refl, sym, ◌∙◌, ap, Ordering, Less, Equal, Greater, is_le, is_lt, nat_cmp, inl, inr, ◌⊎◌, arith, take, drop, append-nil, append_assoc, take-append-drop}
use Rattle.std.specs.Cmp.{IsTotalOrder}
use Rattle.std.specs.List.Sorted.{IsPartitionedBy, IsSortedBy}
use Rattle.std.specs.Ordering.{ordering_reverse, ordering_then}
use Rattle.std.proofs.Math.Seq.{take-append-add}
use Rattle.std.proofs.lemmas.Bool.{false≢true, cases_lt}
use Rattle.std.proofs.lemmas.Bool.Decides.{nat_tests}
use Rattle.std.proofs.lemmas.Cmp.{nat_list_cmp_total, on_total, then_total, tied_itself}
use Rattle.std.proofs.lemmas.List.Prefix.{front_fits, front_reads}
use Rattle.std.proofs.lemmas.List.Sorted.{ranks_by, sorted_far}
use Rattle.csp_match.specs.contracts.host_key.HostKeyOrd.TheImpl.Laws.{total-law as host_total}
use Rattle.csp_match.specs.contracts.host_source.TargetOrd.TheImpl as target_order
use Rattle.csp_match.specs.Entries.{Entry, entry_text}
use Rattle.csp_match.specs.Fronts.{host_cmp, is_up_to, place, place_cmp, text_cmp, Begins, IsOuter, IsOuterAt, IsShared, Place, Rises}
use Rattle.csp_match.proofs.RunOfKey.{then_less, up_to_first}

-- ---- texts

less_is : (x y : ℕ) → x < y → nat_cmp x y ≡ Less
less_is x y h = grind (arith, nat_tests)

level_is : (x : ℕ) → nat_cmp x x ≡ Equal
level_is x = grind (arith, nat_tests)

greater_is : (x y : ℕ) → y < x → nat_cmp x y ≡ Greater
greater_is x y h = grind (arith, nat_tests)

-- what is not greater by its first number and the rest is less by the first, or not greater by the rest
then_le : (x y : ℕ) (o : Ordering) → is_le (ordering_then (nat_cmp x y) o) ≡ true → (x < y) ⊎ ((x ≡ y) × (is_le o ≡ true))
then_le x y o h = elim (cases_lt x y) [
  | inl less ↦ inl less
  | inr over ↦ elim (cases_lt y x) [
    | inl more ↦ absurd (false≢true (rw (greater_is x y more) at h))
    | inr under ↦
        let same : x ≡ y = omega arith in
        inr (same, rw (ap (nat_cmp x) (sym same) ∙ level_is x) at h)
  ]
]

-- what begins a text is not behind it
pub begins_le : (front more : List ℕ) → is_le (text_cmp front (front ++ more)) ≡ true
begins_le [] [] = refl
begins_le [] (m ∷ more) = refl
begins_le (x ∷ front) more = rw (level_is x) (begins_le front more)

-- what stands between a text and one that begins it begins so too
pub between : (front middle more : List ℕ) → is_le (text_cmp front middle) ≡ true → is_le (text_cmp middle (front ++ more)) ≡ true → Begins middle front
between [] middle more low high = (middle, refl)
between (x ∷ front) [] more low high = absurd (false≢true low)
between (x ∷ front) (y ∷ middle) more low high =
    elim (then_le x y (text_cmp front middle) low) [
      | inl less ↦ elim (then_le y x (text_cmp middle (front ++ more)) high) [
        | inl more ↦ absurd (omega arith)
        | inr level ↦ absurd (let e = level.0 in omega arith)
      ]
      | inr level ↦ elim (then_le y x (text_cmp middle (front ++ more)) high) [
        | inl less ↦ absurd (let e = level.0 in omega arith)
        | inr also ↦
            let (rest, e) = between front middle more level.1 also.1 in
            (rest, ap (λ b. b ∷ middle) (sym level.0) ∙ ap (λ t. x ∷ t) e)
      ]
    ]

-- ---- places

pub place_total : IsTotalOrder place_cmp
place_total = then_total (on_total (λ (p : Place). p.0) host_total) (on_total (λ (p : Place). p.1) nat_list_cmp_total)

le_then : (o p : Ordering) → is_le (ordering_then o p) ≡ true → (o ≡ Less) ⊎ ((o ≡ Equal) × (is_le p ≡ true))
le_then Less p h = inl refl
le_then Equal p h = inr (refl, h)
le_then Greater p h = absurd (false≢true h)

-- a place is an outer one of itself
pub outer_itself : (p : Place) → IsOuter p p
outer_itself p = (tied_itself host_total p.0, ([], sym (append-nil p.1)))

-- outer places of an outer one are outer
pub outer_through : (p q r : Place) → IsOuter p q → IsOuter q r → IsOuter p r
outer_through p q r (level, (more, e)) (next, (rest, f)) = (
  host_total.congr p.0 q.0 r.0 level ∙ next,
  (more ++ rest, f ∙ ap (λ (t : List ℕ). t ++ rest) e ∙ append_assoc p.1 more rest),
)

-- and are not behind
pub outer_le : (p q : Place) → IsOuter p q → is_le (place_cmp p q) ≡ true
outer_le p q (level, (more, is)) =
    ap (λ (o : Ordering). is_le (ordering_then o (text_cmp p.1 q.1))) level ∙ ap (λ (t : List ℕ). is_le (text_cmp p.1 t)) is ∙ begins_le p.1 more

-- what is an outer place is one of those between, too
pub outer_between : (p m q : Place) → is_le (place_cmp p m) ≡ true → is_le (place_cmp m q) ≡ true → IsOuter p q → IsOuter p m
outer_between p m q low high (level, (more, is)) =
    elim (le_then (host_cmp p.0 m.0) (text_cmp p.1 m.1) low) [
      | inl less ↦
          let back : host_cmp m.0 q.0 ≡ Greater = host_total.antisymm m.0 q.0 ∙ ap ordering_reverse (sym (host_total.congr p.0 q.0 m.0 level) ∙ less) in
          absurd (false≢true (rw back at high))
      | inr on ↦
          let next : host_cmp m.0 q.0 ≡ Equal = sym (host_total.congr p.0 m.0 q.0 on.0) ∙ level in
          let upto : is_le (text_cmp m.1 q.1) ≡ true = rw next at high in
          (on.0, between p.1 m.1 more on.1 (ap (λ (t : List ℕ). is_le (text_cmp m.1 t)) (sym is) ∙ upto))
    ]

-- ---- entries

not_more : (o : Ordering) → is_lt o ≡ false → is_le (ordering_reverse o) ≡ true
not_more Less h = sym h
not_more Equal h = refl
not_more Greater h = refl

then_further : (o p q : Ordering) → (is_lt q ≡ false → is_lt p ≡ false) → is_lt (ordering_then o q) ≡ false → is_lt (ordering_then o p) ≡ false
then_further Less p q by h = h
then_further Equal p q by h = by h
then_further Greater p q by h = refl

-- entries that rise by their hosts and targets rise by their places
pub places_rise : (entries : List Entry) → IsSortedBy (λ x y. is_lt (ordering_then (host_cmp x.0 y.0) ((target_order.ghosts).cmp x.1 y.1))) entries → Rises entries
places_rise entries sorted k d low high =
    let x = get_or entries k d in
    let y = get_or entries (k + 1) d in
    then_further (host_cmp y.0 x.0) (text_cmp (entry_text y) (entry_text x)) ((target_order.ghosts).cmp y.1 x.1) (λ h. then_less _ _ h) (sorted k d low high)

module _ (entries : List Entry) (rises : Rises entries) where
  -- an entry before another isn't behind it
  pub stands_before : (k i : ℕ) (d : Entry) → k ≤ i → i < length entries
      → is_le (place_cmp (place (get_or entries k d)) (place (get_or entries i d))) ≡ true
  stands_before k i d low within =
      let one = place (get_or entries k d) in
      let other = place (get_or entries i d) in
      let far = sorted_far (λ (x y : Entry). is_lt (place_cmp (place x) (place y))) (ranks_by place_total place) entries rises k i d low within in
      ap is_le (place_total.antisymm one other) ∙ not_more (place_cmp other one) far

  pub outer_at_between : (k m n : ℕ) → k ≤ m → m ≤ n → n < length entries → IsOuterAt entries k n → IsOuterAt entries k m
  outer_at_between k m n low high within outer d =
      outer_between (place (get_or entries k d)) (place (get_or entries m d)) (place (get_or entries n d))
      (stands_before k m d low (omega arith)) (stands_before m n d high within) (outer d)

  -- the entries that aren't behind a place stand first
  pub up_to_before : (p : Place) → IsPartitionedBy (is_up_to p) entries
  up_to_before p = up_to_first place_total place p 0 entries rises

-- ---- what two texts share

-- what begins two texts is no longer than what they share
pub shared_holds : (one other front : List ℕ) (n : ℕ) → IsShared one other n → Begins one front → Begins other front → length front ≤ n
shared_holds one other front n shared (more, e) (rest, f) =
    elim (cases_lt n (length front)) [
      | inl longer ↦
          let low : n < length one = omega (arith, front_fits one front more e) in
          let high : n < length other = omega (arith, front_fits other front rest f) in
          absurd (shared.apart low high (front_reads 0 one front more e n longer ∙ sym (front_reads 0 other front rest f n longer)))
      | inr fits ↦ fits
    ]

-- and what begins one, and is no longer, begins the other
pub shared_begins : (one other front : List ℕ) (n : ℕ) → IsShared one other n → Begins one front → length front ≤ n → Begins other front
shared_begins one other front n shared (more, e) fits =
    let size : n ≡ length front + (n - length front) = omega arith in
    let rest = take (n - length front) more in
    let cut : take n other ≡ front ++ rest =
    sym shared.same ∙ ap (take n) e ∙ ap (λ (m : ℕ). take m (front ++ more)) size ∙ take-append-add front more (n - length front) in
    (rest ++ drop n other, sym (take-append-drop n other) ∙ ap (λ (t : List ℕ). t ++ drop n other) cut ∙ append_assoc front rest (drop n other))
