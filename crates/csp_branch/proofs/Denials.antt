-- Denied names, and the names that lie under them.
use Rattle.std.proofs.Common.{◌≡◌, ◌∙◌, refl, sym, subst, ℕ, zero, suc, ◌≤◌, ◌<◌, ◌⊎◌, inl, inr, Bool, true, false, ◌&&◌, ◌||◌, nat_lt, nat_eq, List, length, get_or, set, replicate, arith, Option, Some, None}
use Rattle.std.proofs.lemmas.List.{get_or_past, get_or-replicate, get_or-set_same, get_or-set_other, length-replicate}
use Rattle.std.proofs.lemmas.Bool.Decides.{nat_tests}
use Rattle.csp_facts.specs.declared.atom.Atom.{Atom}
use Rattle.csp_branch.specs.Numbers.{AreInOrder, IsOuterOr, around_in}
use Rattle.csp_branch.proofs.Forest.{around_before, around_in_is, forest_in, nothing_outside}
use Rattle.csp_branch.proofs.NameOrder.{itself}
use Rattle.csp_branch.specs.Branching.{denied_too}
use Rattle.csp_branch.specs.Marks.{is_denied_by_first, is_denied_in}

abbrev pub IsMarked : List Bool → ℕ → Type 0
IsMarked marks name = get_or marks name false ≡ true

-- a marked name is around this one
abbrev pub LiesUnderMarked : List Atom → List Bool → ℕ → Type 0
LiesUnderMarked atoms marks asked = (k : ℕ) × IsMarked marks k × (around_in atoms k asked ≡ true)

module _ (atoms : List Atom) (marks : List Bool) (asked : ℕ) where
  some_first : (n : ℕ) → is_denied_by_first atoms marks asked n ≡ true → LiesUnderMarked atoms marks asked
  some_first zero h = cc
  some_first (suc n) h = by (get_or marks n false) (around_in atoms n asked) refl refl h (some_first n)
    where
      by : (s t : Bool) → get_or marks n false ≡ s → around_in atoms n asked ≡ t → ((s && t) || is_denied_by_first atoms marks asked n) ≡ true
          → (is_denied_by_first atoms marks asked n ≡ true → LiesUnderMarked atoms marks asked) → LiesUnderMarked atoms marks asked
      by true true e f g further = (n, e, f)
      by true false e f g further = further g
      by false t e f g further = further g

  first_some : (n k : ℕ) → k < n → IsMarked marks k → around_in atoms k asked ≡ true → is_denied_by_first atoms marks asked n ≡ true
  first_some zero k h is on = absurd (omega arith)
  first_some (suc n) k h is on = by (nat_lt k n) refl (first_some n k)
    where
      or_second : (s t : Bool) → t ≡ true → (s || t) ≡ true
      or_second true t e = refl
      or_second false t e = e

      by : (t : Bool) → nat_lt k n ≡ t → (k < n → IsMarked marks k → around_in atoms k asked ≡ true → is_denied_by_first atoms marks asked n ≡ true)
          → ((get_or marks n false && around_in atoms n asked) || is_denied_by_first atoms marks asked n) ≡ true
      by true below further = or_second _ _ (further (grind (arith, nat_tests)) is on)
      by false not_below further =
          let same : k ≡ n = grind (arith, nat_tests) in
          let marked : get_or marks n false ≡ true = subst (λ (m : ℕ). get_or marks m false ≡ true) same is in
          let up : around_in atoms n asked ≡ true = subst (λ (m : ℕ). around_in atoms m asked ≡ true) same on in
          rw (marked, up) refl

  pub some_marked : is_denied_in atoms marks asked ≡ true → LiesUnderMarked atoms marks asked
  some_marked h = some_first (length marks) h

  pub marked_some : LiesUnderMarked atoms marks asked → is_denied_in atoms marks asked ≡ true
  marked_some (k, is, on) = first_some (length marks) k (inside (nat_lt k (length marks)) refl) is on
    where
      inside : (t : Bool) → nat_lt k (length marks) ≡ t → k < length marks
      inside true e = grind (arith, nat_tests)
      inside false e = let past : get_or marks k false ≡ false = get_or_past marks k false (grind (arith, nat_tests)) in cc

both_ways : (s t : Bool) → (s ≡ true → t ≡ true) → (t ≡ true → s ≡ true) → s ≡ t
both_ways true true f g = refl
both_ways true false f g = sym (f refl)
both_ways false true f g = g refl
both_ways false false f g = refl

or_cases : (s t : Bool) → (s || t) ≡ true → (s ≡ true) ⊎ (t ≡ true)
or_cases true t e = inl refl
or_cases false t e = inr e

or_first : (s t : Bool) → s ≡ true → (s || t) ≡ true
or_first s t e = rw e refl

or_last : (s t : Bool) → t ≡ true → (s || t) ≡ true
or_last true t e = refl
or_last false t e = e

-- one name more
pub marked_more : (atoms : List Atom) (marks : List Bool) (known asked : ℕ) → known < length marks
    → is_denied_in atoms (set marks known true) asked ≡ denied_too (around_in atoms) (is_denied_in atoms marks) known asked
marked_more atoms marks known asked h = both_ways _ _ there back
  where
    there : is_denied_in atoms (set marks known true) asked ≡ true → denied_too (around_in atoms) (is_denied_in atoms marks) known asked ≡ true
    there e = by (some_marked atoms (set marks known true) asked e)
      where
        by : LiesUnderMarked atoms (set marks known true) asked → denied_too (around_in atoms) (is_denied_in atoms marks) known asked ≡ true
        by (k, is, on) = by_number (nat_eq k known) refl
          where
            by_number : (t : Bool) → nat_eq k known ≡ t → denied_too (around_in atoms) (is_denied_in atoms marks) known asked ≡ true
            by_number true e2 =
                let same : k ≡ known = grind (arith, nat_tests) in
                or_last _ _ (subst (λ (m : ℕ). around_in atoms m asked ≡ true) same on)
            by_number false e2 =
                let other : k ≡ known → ⊥ = λ f. absurd (grind (arith, nat_tests)) in
                or_first _ _ (marked_some atoms marks asked (k, sym (get_or-set_other marks known k true false other) ∙ is, on))

    back : denied_too (around_in atoms) (is_denied_in atoms marks) known asked ≡ true → is_denied_in atoms (set marks known true) asked ≡ true
    back e = elim (or_cases (is_denied_in atoms marks asked) (around_in atoms known asked) e) [
      | inl before ↦ marked_some atoms (set marks known true) asked (kept (some_marked atoms marks asked before))
      | inr on ↦ marked_some atoms (set marks known true) asked (known, get_or-set_same marks known true false h, on)
    ]
      where
        kept : LiesUnderMarked atoms marks asked → LiesUnderMarked atoms (set marks known true) asked
        kept (k, is, on) = (k, by_number (nat_eq k known) refl, on)
          where
            by_number : (t : Bool) → nat_eq k known ≡ t → IsMarked (set marks known true) k
            by_number true e2 =
                let same : known ≡ k = grind (arith, nat_tests) in
                subst (λ (m : ℕ). get_or (set marks known true) m false ≡ true) same (get_or-set_same marks known true false h)
            by_number false e2 =
                let other : k ≡ known → ⊥ = λ f. absurd (grind (arith, nat_tests)) in
                get_or-set_other marks known k true false other ∙ is

-- what lies under a name that lies under a marked one does so too
pub marked_down : (atoms : List Atom) → AreInOrder atoms → (marks : List Bool) (a b : ℕ) → is_denied_in atoms marks a ≡ true → around_in atoms a b ≡ true → is_denied_in atoms marks b ≡ true
marked_down atoms order marks a b was on =
    let under = some_marked atoms marks a was in
    marked_some atoms marks b (under.0, under.1, (forest_in atoms order).through under.0 a b under.2 on)

-- where nothing is marked

blank_at : (n k : ℕ) → get_or (replicate n false) k false ≡ false
blank_at n k = by (nat_lt k n) refl
  where
    by : (t : Bool) → nat_lt k n ≡ t → get_or (replicate n false) k false ≡ false
    by true e = get_or-replicate n k false false (grind (arith, nat_tests))
    by false e = let over : n ≤ k = grind (arith, nat_tests) in get_or_past (replicate n false) k false (omega (arith, length-replicate n false, over))

is_false : (t : Bool) → (t ≡ true → ⊥) → t ≡ false
is_false true h = absurd (h refl)
is_false false h = refl

never_both : (t : Bool) → t ≡ true → t ≡ false → ⊥
never_both t e f = cc

pub nothing_denied : (atoms : List Atom) (n asked : ℕ) → is_denied_in atoms (replicate n false) asked ≡ false
nothing_denied atoms n asked = is_false (is_denied_in atoms (replicate n false) asked) (λ e.
    let under = some_marked atoms (replicate n false) asked e in
    never_both (get_or (replicate n false) under.0 false) under.1 (blank_at n under.0))

-- Outwards from a name

-- the walk has come to a name around this one; each marked name around this one is around that
abbrev pub IsWalk : List Atom → List Bool → ℕ → Option ℕ → Type 0
IsWalk atoms marks asked (Some m) =
    (m < length atoms) × (around_in atoms m asked ≡ true)
    × ((k : ℕ) → around_in atoms k asked ≡ true → IsMarked marks k → around_in atoms k m ≡ true)
IsWalk atoms marks asked None = (k : ℕ) → around_in atoms k asked ≡ true → IsMarked marks k → ⊥

module _ (atoms : List Atom) (order : AreInOrder atoms) (marks : List Bool) (asked : ℕ) where
  pub walk_first : asked < length atoms → IsWalk atoms marks asked (Some asked)
  walk_first within = (within, around_in_is atoms order asked asked true within within (λ d. itself (get_or atoms asked d)), λ k on is. on)

  before : (k m : ℕ) → m < length atoms → around_in atoms k m ≡ true → IsMarked marks k → get_or marks m false ≡ false → k < m
  before k m p on is not = by (nat_lt k m) (nat_lt m k) (nat_lt k (length atoms)) refl refl refl
    where
      by : (s t u : Bool) → nat_lt k m ≡ s → nat_lt m k ≡ t → nat_lt k (length atoms) ≡ u → k < m
      by true t u e f g = grind (arith, nat_tests)
      by false t false e f g = absurd (never_both (around_in atoms k m) on (nothing_outside atoms k m (grind (arith, nat_tests))))
      by false true true e f g = absurd (never_both (around_in atoms k m) on (around_before atoms order k m (grind (arith, nat_tests)) (grind (arith, nat_tests))))
      by false false true e f g =
          let same : k ≡ m = grind (arith, nat_tests) in
          absurd (never_both (get_or marks m false) (subst (λ (n : ℕ). get_or marks n false ≡ true) same is) not)

  pub walk_next : (m : ℕ) (next : Option ℕ) → IsWalk atoms marks asked (Some m) → get_or marks m false ≡ false → IsOuterOr atoms m next → IsWalk atoms marks asked next
  walk_next m (Some o) (here, on, all) not outer =
      let inner = outer.before in (
        (omega arith),
        (forest_in atoms order).through o m asked outer.on on,
        λ k k_on is.
            let up = all k k_on is in
            outer.innermost k (before k m here up is not) up,
      )
  walk_next m None (here, on, all) not outer = λ k k_on is.
      let up = all k k_on is in
      never_both (around_in atoms k m) up (outer k (before k m here up is not))

  -- it ends at a marked name, at a name that none is marked around, or beyond the outermost one
  pub walk_found : (m : ℕ) → IsWalk atoms marks asked (Some m) → get_or marks m false ≡ true → true ≡ is_denied_in atoms marks asked
  walk_found m (here, on, all) is = sym (marked_some atoms marks asked (m, is, on))

  pub walk_stopped : (m : ℕ) → IsWalk atoms marks asked (Some m) → is_denied_in atoms marks m ≡ false → false ≡ is_denied_in atoms marks asked
  walk_stopped m (here, on, all) clear = sym (is_false (is_denied_in atoms marks asked) (λ e.
      let under = some_marked atoms marks asked e in
      never_both (is_denied_in atoms marks m) (marked_some atoms marks m (under.0, under.1, all under.0 under.2 under.1)) clear))

  pub walk_out : IsWalk atoms marks asked None → false ≡ is_denied_in atoms marks asked
  walk_out none = sym (is_false (is_denied_in atoms marks asked) (λ e.
      let under = some_marked atoms marks asked e in
      none under.0 under.2 under.1))
