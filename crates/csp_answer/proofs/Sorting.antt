-- Sorted conjunctions, each once, are the given ones, and their leads rise.
use Rattle.std.proofs.Common.{◌≡◌, ◌∙◌, sym, ap, subst, ℕ, ◌≤◌, ◌<◌, ◌⊎◌, inl, inr, refl, Bool, true, false, ◌&&◌, cond, nat_eq, nat_lt, List, get_or, Option, Some, None, All, Contains, Ordering, Less, Equal, Greater, IsPermutation, nat_cmp, arith}
use Rattle.std.proofs.lemmas.Bool.Decides.{nat_tests}
use Rattle.std.proofs.lemmas.List.Elements.{All-contains_itself}
use Rattle.std.proofs.lemmas.List.Filters.{All-dedup}
use Rattle.std.proofs.lemmas.List.Kept.{Contains-dedup, IsStrictlySortedBy-dedup}
use Rattle.std.proofs.lemmas.List.Sorted.{All-permutation, Contains-permutation}
use Rattle.std.proofs.lemmas.Map.Keys.{Less-from_sorted}
use Rattle.std.specs.List.{dedup}
use Rattle.std.specs.List.Sorted.{IsSorted, IsStrictlySortedBy}
use Rattle.std.specs.Option.{option_cmp, option_eq}
use Rattle.std.specs.Ordering.{ordering_then}
use Rattle.csp_answer.specs.Answers.{Rise, key_of}
use Rattle.csp_answer.specs.contracts.conjunction.ConjunctionEq.TheImpl.Laws.{laws-law}
use Rattle.csp_answer.specs.contracts.conjunction.ConjunctionOrd.TheImpl as order
use Rattle.csp_answer.specs.contracts.conjunction.ConjunctionOrd.TheImpl.Laws.{matches_eq-law, total-law}
use Rattle.csp_answer.specs.contracts.conjunction.ConjunctionPartialEq.TheImpl as equality
use Rattle.csp_answer.specs.declared.conjunction.Conjunction.{Conjunction}

abbrev cmp : Conjunction → Conjunction → Ordering
cmp = (order.ghosts).cmp

abbrev eq : Conjunction → Conjunction → Bool
eq = (equality.ghosts).eq

below_or_level : (s t : Bool) (rest : Ordering) → ordering_then (cond s Less (cond t Equal Greater)) rest ≡ Less → (s ≡ true) ⊎ (t ≡ true)
below_or_level true t rest e = inl refl
below_or_level false true rest e = inr refl
below_or_level false false rest e = cc

-- the lead is compared first
lead_first : (a b : Option ℕ) (rest : Ordering) → ordering_then (option_cmp nat_cmp a b) rest ≡ Less → key_of a ≤ key_of b
lead_first None b rest e = omega arith
lead_first (Some m) None rest e = cc
lead_first (Some m) (Some n) rest e = elim (below_or_level (nat_lt m n) (nat_eq m n) rest e) [
  | inl below ↦ (let low : m < n = grind (arith, nat_tests, below) in omega (arith, low))
  | inr level ↦ (let one : m ≡ n = grind (arith, nat_tests, level) in omega (arith, one))
]

both_true : (s t : Bool) → (s && t) ≡ true → (s ≡ true) × (t ≡ true)
both_true true t e = (refl, e)
both_true false t e = cc

same_name : (a b : Option ℕ) → option_eq nat_eq a b ≡ true → a ≡ b
same_name None None e = refl
same_name None (Some n) e = cc
same_name (Some m) None e = cc
same_name (Some m) (Some n) e = ap Some (grind (arith, nat_tests, e))

same : (x y : Conjunction) → eq x y ≡ true → x ≡ y
same x y e =
    let lead = both_true _ _ e in
    let port = both_true _ _ lead.1 in
    ap (λ (o : Option ℕ). record { lead = o; port = x.port; path = x.path }) (same_name x.lead y.lead lead.0)
    ∙ ap (λ (o : Option ℕ). record { lead = y.lead; port = o; path = x.path }) (same_name x.port y.port port.0)
    ∙ ap (λ (o : Option ℕ). record { lead = y.lead; port = y.port; path = o }) (same_name x.path y.path port.1)

module _ (given sorted kept : List Conjunction) (moved : IsPermutation given sorted) (is : kept ≡ dedup eq sorted) where
  pub none_lost : All (Contains kept) given
  none_lost k d h =
      subst (λ (l : List Conjunction). Contains l (get_or given k d)) (sym is)
      (Contains-dedup laws-law same sorted (get_or given k d) (Contains-permutation given sorted (get_or given k d) moved (All-contains_itself given k d h)))

  pub all_kept : (P : Conjunction → Type 0) → All P given → All P kept
  all_kept P all = subst (All P) (sym is) (All-dedup eq P sorted (All-permutation P given sorted moved all))

  pub none_new : All (Contains given) kept
  none_new = all_kept (Contains given) (All-contains_itself given)

  pub leads_rise : IsSorted cmp sorted → Rise kept
  leads_rise ordered i j d low h =
      let strict = subst (λ (l : List Conjunction). IsStrictlySortedBy cmp l) (sym is) (IsStrictlySortedBy-dedup total-law matches_eq-law sorted ordered) in
      lead_first (get_or kept i d).lead (get_or kept j d).lead _ (Less-from_sorted cmp kept i j d strict low h)
