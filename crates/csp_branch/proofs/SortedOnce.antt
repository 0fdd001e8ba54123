-- Atoms that are sorted by their names' order, and each left once.
use denote.Param.Members.{Mut}
use Rattle.std.proofs.Common.{◌≡◌, ap, refl, sym, subst, Bor, Bool, List, get_or, All, Contains, IsSortedBy, Ordering, is_lt}
use Rattle.std.proofs.lemmas.Cmp.{eq_by_cmp_equiv}
use Rattle.std.proofs.lemmas.Fn.{always_returns_same}
use Rattle.std.proofs.lemmas.List.Elements.{All-contains_itself}
use Rattle.std.proofs.lemmas.List.Filters.{All-dedup}
use Rattle.std.proofs.lemmas.List.Kept.{Contains-dedup, IsStrictlySortedBy-dedup}
use Rattle.std.proofs.lemmas.List.Sorted.{All-permutation, Contains-permutation, ranks_by}
use Rattle.std.proofs.lemmas.Map.Keys.{Less-from_sorted}
use Rattle.std.specs.Cmp.{IsStrictWeakOrder}
use Rattle.std.specs.Fn.{Called, ComparesAs}
use Rattle.std.specs.List.{dedup}
use Rattle.std.specs.List.Sorted.{IsPermutation, IsSorted}
use Rattle.std.specs.Ordering.{eq_by_cmp}
use Rattle.csp_facts.specs.declared.atom.Atom.{Atom}
use Rattle.csp_branch.specs.Order.{name_cmp}
use Rattle.csp_branch.specs.Sorting.{Rise}
use Rattle.csp_branch.proofs.NameOrder.{name_total}
use Rattle.csp_branch.proofs.NameExact.{level_decides}

-- what `sort_by` ensures, where each call compares two atoms
pub in_order : {F : Type 0} {g : Mut F (Bor Atom × (Bor Atom × Unit {0})) Ordering} {f : F} (atoms : List Atom)
    → ((lt : Atom → Atom → Bool) → IsStrictWeakOrder lt → ComparesAs g lt f → IsSortedBy lt atoms)
    → ((a : Bor Atom × (Bor Atom × Unit {0})) (r : Ordering) (f' : F) → Called g f a r f' → (r ≡ name_cmp a.0.now a.1.0.now) × (f' ≡ f))
    → IsSorted name_cmp atoms
in_order {g = g} {f = f} atoms up h =
    up (λ x y. is_lt (name_cmp x y)) (ranks_by name_total (λ x. x))
    (always_returns_same g (λ a r. is_lt r ≡ is_lt (name_cmp a.0.now a.1.0.now)) f (λ a r f' k. (ap is_lt (h a r f' k).0, (h a r f' k).1)))

module _ (given sorted made : List Atom) (moved : IsPermutation given sorted) (is : made ≡ dedup (eq_by_cmp name_cmp) sorted) where
  pub each_there : All (Contains made) given
  each_there k d h =
      subst (λ (l : List Atom). Contains l (get_or given k d)) (sym is)
      (Contains-dedup (eq_by_cmp_equiv name_total) (λ x y. (level_decides x y).0) sorted (get_or given k d)
      (Contains-permutation given sorted (get_or given k d) moved (All-contains_itself given k d h)))

  pub none_new : All (Contains given) made
  none_new = subst (All (Contains given)) (sym is) (All-dedup (eq_by_cmp name_cmp) (Contains given) sorted (All-permutation (Contains given) given sorted moved (All-contains_itself given)))

  pub rises : IsSorted name_cmp sorted → Rise made
  rises ordered = subst Rise (sym is) (λ i j d low h. Less-from_sorted name_cmp (dedup (eq_by_cmp name_cmp) sorted) i j d (IsStrictlySortedBy-dedup name_total (λ x y. refl) sorted ordered) low h)
