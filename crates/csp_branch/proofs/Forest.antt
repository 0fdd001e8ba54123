-- The names of atoms in order are a forest of ranges.
use Rattle.std.proofs.Common.{◌≡◌, ◌∙◌, refl, sym, ap, ap₂, subst, ℕ, ◌≤◌, ◌<◌, ◌+◌, ◌-◌, ◌⊎◌, inl, inr, Bool, true, false, ◌&&◌, nat_lt, nat_le, List, length, get_or, slice_get, SomeIff, Option, Some, None, arith}
use Rattle.std.proofs.lemmas.Option.{slice_get-get_or, slice_get_within, slice_get_past, get_or_from_slice_get}
use Rattle.std.proofs.lemmas.Bool.Decides.{nat_tests}
use Rattle.std.specs.Ordering.{is_gt}
use Rattle.std.specs.declared.cmp.Ordering.TheVariants.{Less, Equal}
use Rattle.csp_facts.specs.Atoms.{part_of, IsValidAtom}
use Rattle.csp_facts.specs.declared.atom.Atom.{Atom}
use Rattle.csp_facts.specs.declared.atom.Atom.TheVariants.{HostDomain}
use Rattle.csp_branch.specs.Around.{is_around}
use Rattle.csp_branch.specs.Numbers.{AreInOrder, IsForest, IsAroundIs, IsEnd, IsOuter, IsOutermost, IsOuterOr, both_around, around_in}
use Rattle.csp_branch.specs.Order.{name_cmp}
use Rattle.std.specs.Cmp.{tied_itself}
use Rattle.csp_branch.proofs.NameOrder.{name_total}
use Rattle.csp_branch.proofs.Ending.{not_above, not_around_before}
use Rattle.csp_branch.proofs.Nesting.{between_too, nest, through}
use Rattle.csp_branch.proofs.PartOrder.{stand_together}

-- two atoms of which one is around the other stand there
stand : (a b : Option Atom) → both_around a b ≡ true → (x : Atom) × (y : Atom) × (a ≡ Some x) × (b ≡ Some y) × (is_around x y ≡ true)
stand (Some x) (Some y) h = (x, y, refl, refl, h)
stand None b h = cc
stand (Some x) None h = cc

module _ (atoms : List Atom) (order : AreInOrder atoms) where
  valid_at : (k : ℕ) (x : Atom) → slice_get atoms k ≡ Some x → IsValidAtom x
  valid_at k x e = subst (λ (y : Atom). IsValidAtom y) (get_or_from_slice_get atoms k x x e) (order.valid k x (slice_get_within atoms k x e))

  through_in : (a b c : ℕ) → around_in atoms a b ≡ true → around_in atoms b c ≡ true → around_in atoms a c ≡ true
  through_in a b c h k =
      let first = stand (slice_get atoms a) (slice_get atoms b) h in
      let second = stand (slice_get atoms b) (slice_get atoms c) k in
      let same : first.1 ≡ second.0 = cc (first.3, second.2) in
      let on : is_around first.1 second.1 ≡ true = subst (λ (x : Atom). is_around x second.1 ≡ true) (sym same) second.4 in
      ap₂ both_around first.2 second.3
      ∙ through first.0 first.1 second.1 (valid_at a first.0 first.2) (valid_at b first.1 first.3) (valid_at c second.1 second.3)
      first.4 on

  nest_in : (a b c : ℕ) → around_in atoms a c ≡ true → around_in atoms b c ≡ true → (around_in atoms a b ≡ true) ⊎ (around_in atoms b a ≡ true)
  nest_in a b c h k =
      let first = stand (slice_get atoms a) (slice_get atoms c) h in
      let second = stand (slice_get atoms b) (slice_get atoms c) k in
      let same : second.1 ≡ first.1 = cc (first.3, second.3) in
      let on : is_around second.0 first.1 ≡ true = subst (λ (x : Atom). is_around second.0 x ≡ true) same second.4 in
      elim (nest first.0 second.0 first.1 (valid_at a first.0 first.2) (valid_at b second.0 second.2) (valid_at c first.1 first.3) first.4 on) [
        | inl one ↦ inl (ap₂ both_around first.2 second.2 ∙ one)
        | inr other ↦ inr (ap₂ both_around second.2 first.2 ∙ other)
      ]

  pub forest_in : IsForest (around_in atoms)
  forest_in = record { through = through_in; nest = nest_in }

  not_above_or_same : (i j : ℕ) (d : Atom) → i ≤ j → j < length atoms → is_gt (name_cmp (get_or atoms i d) (get_or atoms j d)) ≡ false
  not_above_or_same i j d low h = by (nat_lt i j) refl
    where
      by : (t : Bool) → nat_lt i j ≡ t → is_gt (name_cmp (get_or atoms i d) (get_or atoms j d)) ≡ false
      by true is = not_above atoms i j d order (grind (arith, nat_tests)) h
      by false is =
          let same : i ≡ j = grind (arith, nat_tests) in
          subst (λ (n : ℕ). is_gt (name_cmp (get_or atoms i d) (get_or atoms n d)) ≡ false) same (ap is_gt (tied_itself name_total (get_or atoms i d)))

  -- by places
  pub around_in_is : (a b : ℕ) (test : Bool) → a < length atoms → b < length atoms → IsAroundIs atoms a b test → around_in atoms a b ≡ test
  around_in_is a b test h k is = ap₂ both_around (slice_get-get_or atoms a HostDomain h) (slice_get-get_or atoms b HostDomain k) ∙ is HostDomain

  pub is_around_in : (a b : ℕ) (test : Bool) → a < length atoms → b < length atoms → around_in atoms a b ≡ test → IsAroundIs atoms a b test
  is_around_in a b test h k e d = sym (ap₂ both_around (slice_get-get_or atoms a d h) (slice_get-get_or atoms b d k)) ∙ e

  -- what is around an atom from before the one before it is around that one
  pub around_last : (a m k : ℕ) → a ≤ m → m < k → k < length atoms → around_in atoms a k ≡ true → around_in atoms a m ≡ true
  around_last a m k low below h e = around_in_is a m true (omega arith) (omega arith) (λ d.
      between_too (get_or atoms a d) (get_or atoms m d) (get_or atoms k d)
      (order.valid a d (omega arith)) (order.valid m d (omega arith)) (order.valid k d h)
      (is_around_in a k true (omega arith) h e d)
      (not_above_or_same a m d low (omega arith)) (not_above atoms m k d order below h))

-- Outer names

abbrev pub IsLeft : List Atom → ℕ → Option ℕ → Type 0
IsLeft atoms number (Some m) = (m < number) × ((k : ℕ) → k < number → around_in atoms k number ≡ true → around_in atoms k m ≡ true)
IsLeft atoms number None = IsOutermost atoms number

is_false : (t : Bool) → (t ≡ true → ⊥) → t ≡ false
is_false true h = absurd (h refl)
is_false false h = refl

never_both : (t : Bool) → t ≡ true → t ≡ false → ⊥
never_both t e f = cc

module _ (atoms : List Atom) (order : AreInOrder atoms) (number : ℕ) (within : number < length atoms) where
  pub left_first : (next : Option ℕ) → SomeIff next (1 ≤ number) (number - 1) → IsLeft atoms number next
  left_first None is = λ k low. absurd (is (omega arith))
  left_first (Some m) (pos, same) =
      subst (λ (n : ℕ). IsLeft atoms number (Some n)) (sym same)
      ((omega arith), λ k low e. around_last atoms order k (number - 1) number (omega arith) (omega arith) within e)

  under_before : (k m : ℕ) → k < length atoms → m < length atoms → around_in atoms k m ≡ true → around_in atoms m number ≡ false → around_in atoms k number ≡ true → k < m
  under_before k m h p on off is = by (nat_lt k m) refl
    where
      by : (t : Bool) → nat_lt k m ≡ t → k < m
      by true below = grind (arith, nat_tests)
      by false not_below = by_other (nat_lt m k) refl
        where
          by_other : (t : Bool) → nat_lt m k ≡ t → k < m
          by_other true above =
              let off_here = around_in_is atoms order k m false h p (not_around_before atoms m k order (grind (arith, nat_tests)) h) in
              absurd (never_both (around_in atoms k m) on off_here)
          by_other false not_above =
              let same : k ≡ m = grind (arith, nat_tests) in
              absurd (never_both (around_in atoms m number) (subst (λ (n : ℕ). around_in atoms n number ≡ true) same is) off)

  pub left_next : (m : ℕ) (next : Option ℕ) → IsLeft atoms number (Some m) → around_in atoms m number ≡ false → IsOuterOr atoms m next → IsLeft atoms number next
  left_next m (Some o) (below, all) off outer =
      let inner = outer.before in (
        (omega arith),
        λ k low e. let on = all k low e in
            outer.innermost k (under_before k m (omega arith) (omega arith) on off e) on,
      )
  left_next m None (below, all) off outer = λ k low. is_false (around_in atoms k number) (λ e.
      let on = all k low e in
      never_both (around_in atoms k m) on (outer k (under_before k m (omega arith) (omega arith) on off e)))

  pub left_found : (m : ℕ) → IsLeft atoms number (Some m) → around_in atoms m number ≡ true → IsOuter atoms number m
  left_found m (below, all) on = record { before = below; on = on; innermost = all }

-- how many names may still be gone through
abbrev pub steps_left : Option ℕ → ℕ
steps_left (Some m) = m + 1
steps_left None = 0

-- Atoms that are there

pub around_in_there : (atoms : List Atom) (outer inner : ℕ) (d : Atom) → outer < length atoms → inner < length atoms
    → around_in atoms outer inner ≡ is_around (get_or atoms outer d) (get_or atoms inner d)
around_in_there atoms outer inner d h k = ap₂ both_around (slice_get-get_or atoms outer d h) (slice_get-get_or atoms inner d k)

pub parts_together : (atoms : List Atom) (i j k : ℕ) (d : Atom) → AreInOrder atoms → i ≤ j → j ≤ k → k < length atoms
    → part_of (get_or atoms i d) ≡ part_of (get_or atoms k d) → part_of (get_or atoms i d) ≡ part_of (get_or atoms j d)
parts_together atoms i j k d order low high h same =
    stand_together (get_or atoms i d) (get_or atoms j d) (get_or atoms k d) same
    (not_above_or_same atoms order i j d low (omega arith)) (not_above_or_same atoms order j k d high h)

pub one_name : (atoms : List Atom) (i j : ℕ) (d : Atom) → AreInOrder atoms → i < length atoms → j < length atoms → get_or atoms i d ≡ get_or atoms j d → i ≡ j
one_name atoms i j d order h k same = by (nat_lt i j) (nat_lt j i) refl refl
  where
    not_below : (a b : Atom) → a ≡ b → name_cmp a b ≡ Less → ⊥
    not_below a b e less = let level : name_cmp a b ≡ Equal = subst (λ (x : Atom). name_cmp a x ≡ Equal) e (tied_itself name_total a) in cc

    by : (s t : Bool) → nat_lt i j ≡ s → nat_lt j i ≡ t → i ≡ j
    by true t e f = absurd (not_below (get_or atoms i d) (get_or atoms j d) same (order.rise i j d (grind (arith, nat_tests)) k))
    by false true e f = absurd (not_below (get_or atoms j d) (get_or atoms i d) (sym same) (order.rise j i d (grind (arith, nat_tests)) h))
    by false false e f = grind (arith, nat_tests)

-- Beyond the last one

no_inner : (outer : Option Atom) → both_around outer None ≡ false
no_inner (Some atom) = refl
no_inner None = refl

no_outer : (inner : Option Atom) → both_around None inner ≡ false
no_outer (Some atom) = refl
no_outer None = refl

pub nothing_inside : (atoms : List Atom) (a b : ℕ) → length atoms ≤ b → around_in atoms a b ≡ false
nothing_inside atoms a b h = ap (both_around (slice_get atoms a)) (slice_get_past atoms b h) ∙ no_inner (slice_get atoms a)

pub nothing_outside : (atoms : List Atom) (a b : ℕ) → length atoms ≤ a → around_in atoms a b ≡ false
nothing_outside atoms a b h = ap (λ (o : Option Atom). both_around o (slice_get atoms b)) (slice_get_past atoms a h) ∙ no_outer (slice_get atoms b)

-- What numbers say

pub around_before : (atoms : List Atom) → AreInOrder atoms → (outer inner : ℕ) → inner < outer → outer < length atoms → around_in atoms outer inner ≡ false
around_before atoms order outer inner below here = around_in_is atoms order outer inner false here (omega arith) (not_around_before atoms inner outer order below here)

pub range_is : (atoms : List Atom) → AreInOrder atoms → (name end k : ℕ) → name < length atoms → IsEnd atoms name end
    → around_in atoms name k ≡ (nat_le name k && nat_lt k end)
range_is atoms order name end k here is = by (nat_le name k) (nat_lt k end) refl refl
  where
    by : (s t : Bool) → nat_le name k ≡ s → nat_lt k end ≡ t → around_in atoms name k ≡ (s && t)
    by false t e f =
        let below : k < name = grind (arith, nat_tests) in
        around_before atoms order name k below here
    by true true e f =
        let most = is.inside in
        let low : name ≤ k = grind (arith, nat_tests) in
        let high : k < end = grind (arith, nat_tests) in
        around_in_is atoms order name k true here (omega arith) (is.within k low high)
    by true false e f = by_there (nat_lt k (length atoms)) refl
      where
        by_there : (u : Bool) → nat_lt k (length atoms) ≡ u → around_in atoms name k ≡ false
        by_there true g =
            let over : end ≤ k = grind (arith, nat_tests) in
            let there : k < length atoms = grind (arith, nat_tests) in
            around_in_is atoms order name k false here there (is.beyond k over there)
        by_there false g = nothing_inside atoms name k (grind (arith, nat_tests))
