-- The end of what lies under an atom, looked for from the atom on, and what numbers then say.
use Rattle.std.proofs.Common.{◌≡◌, ◌∙◌, refl, sym, ap, subst, ℕ, ◌≤◌, ◌<◌, ◌+◌, Bool, true, false, nat_lt, List, length, get_or, set, arith}
use Rattle.std.proofs.lemmas.Bool.Decides.{nat_tests}
use Rattle.std.proofs.lemmas.List.{get_or_default, length-set, get_or-set_same, get_or-set_other}
use Rattle.std.specs.List.{slice_index_or}
use Rattle.std.specs.Cmp.{tied_itself}
use Rattle.std.specs.Ordering.{is_gt, ordering_reverse}
use Rattle.std.specs.declared.cmp.Ordering.TheVariants.{Greater}
use Rattle.csp_facts.specs.declared.atom.Atom.{Atom}
use Rattle.csp_branch.specs.Around.{is_around}
use Rattle.csp_branch.specs.Order.{name_cmp}
use Rattle.csp_branch.specs.Numbers.{AreInOrder, IsAroundIs, IsEnd, AreEndsFrom}
use Rattle.csp_branch.proofs.NameOrder.{name_total, itself}
use Rattle.csp_branch.proofs.Nesting.{low as around_is_low, between_too, through}

-- what stands from the atom to here lies under it
pub record IsUnderTo (atoms : List Atom) (number end : ℕ) : Type 0 where
  pub above : number < end
  pub inside : end ≤ length atoms
  pub within : (k : ℕ) → number ≤ k → k < end → IsAroundIs atoms number k true

pub not_above : (atoms : List Atom) (i j : ℕ) (d : Atom) → AreInOrder atoms → i < j → j < length atoms
    → is_gt (name_cmp (slice_index_or atoms i d) (slice_index_or atoms j d)) ≡ false
not_above atoms i j d order below h = ap is_gt (order.rise i j d below h)

pub not_around_before : (atoms : List Atom) (i j : ℕ) → AreInOrder atoms → i < j → j < length atoms → IsAroundIs atoms j i false
not_around_before atoms i j order below h d = by (is_around (slice_index_or atoms j d) (slice_index_or atoms i d)) refl
  where
    by : (test : Bool) → is_around (slice_index_or atoms j d) (slice_index_or atoms i d) ≡ test → test ≡ false
    by false e = refl
    by true e =
        let low = around_is_low (slice_index_or atoms j d) (slice_index_or atoms i d) (order.valid j d h) (order.valid i d (omega arith)) e in
        let less = order.rise i j d below h in
        let more : name_cmp (slice_index_or atoms j d) (slice_index_or atoms i d) ≡ Greater =
        name_total.antisymm (slice_index_or atoms j d) (slice_index_or atoms i d) ∙ ap ordering_reverse less in
        let up : true ≡ false = rw more at low in
        cc

pub under_itself : (atoms : List Atom) (number : ℕ) → AreInOrder atoms → number < length atoms → IsUnderTo atoms number (number + 1)
under_itself atoms number order h = record {
  above = omega arith;
  inside = omega arith;
  within = λ k low high d.
      let same : k ≡ number = omega arith in
      subst (λ (n : ℕ). is_around (slice_index_or atoms number d) (slice_index_or atoms n d) ≡ true) (sym same)
      (itself (slice_index_or atoms number d));
}

pub under_more : (atoms : List Atom) (number end next : ℕ) → AreInOrder atoms → IsUnderTo atoms number end → end < length atoms
    → IsAroundIs atoms number end true → IsEnd atoms end next → IsUnderTo atoms number next
under_more atoms number end next order so_far h under ends = record {
  above = let p = so_far.above in let q = ends.above in omega arith;
  inside = ends.inside;
  within = λ k low high d. by k low high d (nat_lt k end) refl;
}
  where
    by : (k : ℕ) → number ≤ k → k < next → (d : Atom) → (test : Bool) → nat_lt k end ≡ test
        → is_around (slice_index_or atoms number d) (slice_index_or atoms k d) ≡ true
    by k low high d true is = so_far.within k low (grind (arith, nat_tests)) d
    by k low high d false is =
        let from : end ≤ k = grind (arith, nat_tests) in
        let most = ends.inside in
        let start = so_far.above in
        through (slice_index_or atoms number d) (slice_index_or atoms end d) (slice_index_or atoms k d)
        (order.valid number d (omega arith)) (order.valid end d h) (order.valid k d (omega arith))
        (under d) (ends.within k from high d)

pub under_all : (atoms : List Atom) (number end : ℕ) → AreInOrder atoms → IsUnderTo atoms number end
    → (end < length atoms → IsAroundIs atoms number end false) → IsEnd atoms number end
under_all atoms number end order so_far apart = record {
  above = so_far.above;
  inside = so_far.inside;
  within = so_far.within;
  beyond = λ k low high d. by k low high d (is_around (slice_index_or atoms number d) (slice_index_or atoms k d)) refl;
}
  where
    by : (k : ℕ) → end ≤ k → k < length atoms → (d : Atom) → (test : Bool)
        → is_around (slice_index_or atoms number d) (slice_index_or atoms k d) ≡ test → test ≡ false
    by k low high d false e = refl
    by k low high d true e =
        let start = so_far.above in
        let here : end < length atoms = omega arith in
        let first = not_above atoms number end d order start here in
        let second : is_gt (name_cmp (slice_index_or atoms end d) (slice_index_or atoms k d)) ≡ false = at_or_above (nat_lt end k) refl in
        let around = between_too (slice_index_or atoms number d) (slice_index_or atoms end d) (slice_index_or atoms k d)
        (order.valid number d (omega arith)) (order.valid end d here) (order.valid k d high)
        e first second in
        let not = apart here d in
        let up : true ≡ false = sym around ∙ not in
        cc
      where
        at_or_above : (t : Bool) → nat_lt end k ≡ t → is_gt (name_cmp (slice_index_or atoms end d) (slice_index_or atoms k d)) ≡ false
        at_or_above true is = not_above atoms end k d order (grind (arith, nat_tests)) high
        at_or_above false is =
            let same : end ≡ k = grind (arith, nat_tests) in
            subst (λ (n : ℕ). is_gt (name_cmp (slice_index_or atoms end d) (slice_index_or atoms n d)) ≡ false) same
            (ap is_gt (tied_itself name_total (slice_index_or atoms end d)))

-- Ends from the last one on

pub ends_none : (atoms : List Atom) (ends : List ℕ) → length ends ≡ length atoms → AreEndsFrom atoms ends (length atoms)
ends_none atoms ends long = record { long = long; each = λ k low high. absurd (omega arith) }

pub ends_more : (atoms : List Atom) (ends : List ℕ) (number end : ℕ) → number < length atoms → AreEndsFrom atoms ends (number + 1) → IsEnd atoms number end
    → AreEndsFrom atoms (set ends number end) number
ends_more atoms ends number end h are is = record {
  long = length-set ends number end ∙ are.long;
  each = λ k low high. by k low high (nat_lt number k) refl;
}
  where
    by : (k : ℕ) → number ≤ k → k < length atoms → (t : Bool) → nat_lt number k ≡ t → IsEnd atoms k (get_or (set ends number end) k 0)
    by k low high true above =
        let more : number < k = grind (arith, nat_tests) in
        let other : get_or (set ends number end) k 0 ≡ get_or ends k 0 = grind (arith, get_or-set_other) in
        subst (λ (e : ℕ). IsEnd atoms k e) (sym other) (are.each k (omega arith) high)
    by k low high false not_above =
        let same : number ≡ k = grind (arith, nat_tests) in
        let long = are.long in
        let at : get_or (set ends number end) number 0 ≡ end = get_or-set_same ends number end 0 (omega arith) in
        subst (λ (n : ℕ). IsEnd atoms n (get_or (set ends number end) n 0)) same (subst (λ (e : ℕ). IsEnd atoms number e) (sym at) is)

-- Tests of two atoms

pub around_at : (atoms : List Atom) (outer inner : ℕ) (x y : Atom) (test : Bool) → outer < length atoms → inner < length atoms
    → x ≡ slice_index_or atoms outer x → y ≡ slice_index_or atoms inner y → is_around x y ≡ test → IsAroundIs atoms outer inner test
around_at atoms outer inner x y test h k p q is d =
    let first : slice_index_or atoms outer d ≡ x = get_or_default atoms outer d x h ∙ sym p in
    let second : slice_index_or atoms inner d ≡ y = get_or_default atoms inner d y k ∙ sym q in
    rw (first, second) is
