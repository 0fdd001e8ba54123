-- Where an atom stands among atoms that rise, and where the names of a part begin.
use denote.Param.Members.{Mut}
use Rattle.std.proofs.Common.{◌≡◌, ◌∙◌, refl, sym, ap, subst, Bor, ℕ, ◌≤◌, ◌<◌, Bool, true, false, nat_lt, ltb-false, ltb-true, List, length, get_or, slice_get, Some, arith, Contains, Ordering, Less, Equal, Greater, is_lt}
use Rattle.std.proofs.lemmas.Bool.Decides.{nat_tests}
use Rattle.std.proofs.lemmas.List.Sorted.{IsPartitionedBy-ltb, IsPartitionPoint-from_clause}
use Rattle.std.proofs.lemmas.Option.{get_or_from_slice_get, slice_get_within}
use Rattle.std.specs.Cmp.{tied_itself}
use Rattle.std.specs.Fn.{Called, ComputesKey}
use Rattle.std.specs.List.Sorted.{IsNonDecreasingBy, IsPartitionedBy, IsPartitionPoint}
use Rattle.std.specs.Ordering.{is_eq, is_gt}
use Rattle.csp_facts.specs.declared.atom.Atom.{Atom}
use Rattle.csp_branch.specs.Order.{name_cmp, number_of}
use Rattle.csp_branch.specs.Sorting.{Rise}
use Rattle.csp_branch.proofs.NameExact.{level_decides}
use Rattle.csp_branch.proofs.NameOrder.{name_total}
use Rattle.csp_branch.proofs.PartOrder.{parts_rise}

abbrev pub is_below : Atom → Atom → Bool
is_below x atom = is_lt (name_cmp atom x)

less : (r : Ordering) → is_lt r ≡ true → r ≡ Less
less Less e = refl
less Equal e = cc
less Greater e = cc

not_below_itself : (x : Atom) → is_below x x ≡ true → ⊥
not_below_itself x e = let level : name_cmp x x ≡ Equal = tied_itself name_total x in let lower = less (name_cmp x x) e in cc

module _ (atoms : List Atom) (x : Atom) (rise : Rise atoms) where
  parted_by : IsPartitionedBy (is_below x) atoms
  parted_by i j d low h below = by (nat_lt i j) refl
    where
      by : (t : Bool) → nat_lt i j ≡ t → is_below x (get_or atoms i d) ≡ true
      by true e = ap is_lt (name_total.trans (get_or atoms i d) (get_or atoms j d) x (rise i j d (grind (arith, nat_tests)) h) (less (name_cmp (get_or atoms j d) x) below))
      by false e =
          let same : i ≡ j = grind (arith, nat_tests) in
          subst (λ (n : ℕ). is_below x (get_or atoms n d) ≡ true) (sym same) below

  abbrev pub IsPoint : ℕ → Type 0
  IsPoint point = IsPartitionPoint (λ a. is_below x a ≡ true) (λ a. is_below x a ≡ false) atoms point

  -- the atom stands at no name but the first that isn't below it
  not_before : (point k : ℕ) → IsPoint point → k < point → get_or atoms k x ≡ x → ⊥
  not_before point k is low same = not_below_itself x (subst (λ (a : Atom). is_below x a ≡ true) same (is.0 k x (omega arith) low))

  pub beyond_all : (point : ℕ) → IsPoint point → length atoms ≤ point → ¬ Contains atoms x
  beyond_all point is past (k, h, same) = not_before point k is (omega arith) same

  pub another_there : (point : ℕ) (found : Atom) → IsPoint point → slice_get atoms point ≡ Some found → is_eq (name_cmp found x) ≡ false
      → ¬ Contains atoms x
  another_there point found is at other (k, h, same) = by (nat_lt k point) (nat_lt point k) refl refl
    where
      here : point < length atoms
      here = slice_get_within atoms point found at

      by : (s t : Bool) → nat_lt k point ≡ s → nat_lt point k ≡ t → ⊥
      by true t e f = not_before point k is (grind (arith, nat_tests)) same
      by false true e f =
          let lower : name_cmp (get_or atoms point x) x ≡ Less = subst (λ (a : Atom). name_cmp (get_or atoms point x) a ≡ Less) same (rise point k x (grind (arith, nat_tests)) h) in
          let on = is.1 point x (omega arith) here in
          let up : true ≡ false = sym (ap is_lt lower) ∙ on in
          cc
      by false false e f =
          let one : k ≡ point = grind (arith, nat_tests) in
          let itself : found ≡ x = sym (get_or_from_slice_get atoms point found x at) ∙ subst (λ (n : ℕ). get_or atoms n x ≡ x) one same in
          let equal : is_eq (name_cmp found x) ≡ true = (level_decides found x).1 itself in
          cc

  pub itself_there : (point : ℕ) (found : Atom) → slice_get atoms point ≡ Some found → is_eq (name_cmp found x) ≡ true → slice_get atoms point ≡ Some x
  itself_there point found at level = at ∙ ap Some ((level_decides found x).0 level)

pub parts_ascend : (atoms : List Atom) → Rise atoms → IsNonDecreasingBy number_of atoms
parts_ascend atoms rise i j d low h = by (nat_lt i j) refl
  where
    by : (t : Bool) → nat_lt i j ≡ t → number_of (get_or atoms i d) ≤ number_of (get_or atoms j d)
    by true e = parts_rise (get_or atoms i d) (get_or atoms j d) (ap is_gt (rise i j d (grind (arith, nat_tests)) h))
    by false e =
        let same : i ≡ j = grind (arith, nat_tests) in
        let level : number_of (get_or atoms i d) ≡ number_of (get_or atoms j d) = ap (λ (n : ℕ). number_of (get_or atoms n d)) same in
        omega (arith, level)

-- what `partition_point` answers at the test of parts
pub starts_at : {F : Type 0} {g : Mut F (Bor Atom × Unit {0}) Bool} {f : F} (atoms there : List Atom) (part point : ℕ) → Rise atoms → there ≡ atoms
    → ((p : Atom → Bool) → ComputesKey g p f → IsPartitionedBy p there → IsPartitionPoint (λ a. p a ≡ true) (λ a. p a ≡ false) there point)
    → ((a : Bor Atom × Unit {0}) (r : Bool) (f' : F) → Called g f a r f' → (r ≡ nat_lt (number_of a.0.now) part) × (f' ≡ f))
    → ((k : ℕ) (d : Atom) → k < point → number_of (get_or atoms k d) < part) × ((k : ℕ) (d : Atom) → point ≤ k → k < length atoms → part ≤ number_of (get_or atoms k d))
starts_at atoms there part point rise same parted answers =
    let ascends : IsPartitionedBy (λ a. nat_lt (number_of a) part) there = subst (IsPartitionedBy (λ a. nat_lt (number_of a) part)) (sym same) (IsPartitionedBy-ltb number_of atoms part (parts_ascend atoms rise)) in
    let is = subst (λ (l : List Atom). IsPartitionPoint (λ a. nat_lt (number_of a) part ≡ true) (λ a. nat_lt (number_of a) part ≡ false) l point) same
    (IsPartitionPoint-from_clause (λ a. nat_lt (number_of a) part) there point parted ascends answers) in
    ((λ k d below. ltb-true _ _ (is.0 k d (omega arith) below)), (λ k d from here. ltb-false _ _ (is.1 k d from here)))

-- and at the test against an atom
pub below_at : {F : Type 0} {g : Mut F (Bor Atom × Unit {0}) Bool} {f : F} (atoms there : List Atom) (x : Atom) (point : ℕ) → (rise : Rise atoms) → there ≡ atoms
    → ((p : Atom → Bool) → ComputesKey g p f → IsPartitionedBy p there → IsPartitionPoint (λ a. p a ≡ true) (λ a. p a ≡ false) there point)
    → ((a : Bor Atom × Unit {0}) (r : Bool) (f' : F) → Called g f a r f' → (r ≡ is_below x a.0.now) × (f' ≡ f))
    → IsPoint atoms x rise point
below_at atoms there x point rise same parted answers =
    subst (λ (l : List Atom). IsPartitionPoint (λ a. is_below x a ≡ true) (λ a. is_below x a ≡ false) l point) same
    (IsPartitionPoint-from_clause (is_below x) there point parted (subst (IsPartitionedBy (is_below x)) (sym same) (parted_by atoms x rise)) answers)
