-- What the numbers of the enforced policies of a list are.
use Rattle.std.proofs.Common.{arith, ◌≡◌, ◌∙◌, sym, ap, subst, refl, ℕ, ◌+◌, ◌<◌, ◌≤◌, suc, get_or, true, List, [], ◌∷◌, ◌++◌, length, append_assoc, inl, inr, All}
use Rattle.std.specs.Prelude.{Some, IsTrue, MatchOption, slice_get}
use Rattle.std.proofs.lemmas.Bool.{cases_Bool, cond-true, cond-false}
use Rattle.std.proofs.lemmas.List.{length_push}
use Rattle.std.proofs.lemmas.List.Elements.{All-nil, All-cons, All-get_or}
use Rattle.std.proofs.lemmas.Option.{slice_get_within}
use Rattle.csp_branch.specs.Walks.{Position}
use Rattle.csp_model.specs.Verdict.{is_enforce}
use Rattle.csp_model.specs.declared.policy.Policy.{Policy}
use Rattle.csp_model.specs.declared.policy.PolicyList.{PolicyList}
use Rattle.csp_model.specs.Policies.{IsReadable, policy_limit}
use Rattle.csp_proof.specs.Pairs.{enforced_from, enforced}
use Rattle.csp_compare.specs.Comparisons.{IsReady}
use Rattle.csp_compare.specs.declared.comparison.Comparison.{Comparison}

-- there is an enforced policy of this number
pub record IsEnforced (ps : List Policy) (n : ℕ) : Type 0 where
  pub within : n < length ps
  pub is : MatchOption (slice_get ps n) ⊥ (λ (p : Policy). IsTrue (is_enforce p.disposition))

get_at : (front : List Policy) (p : Policy) (back : List Policy) → slice_get (front ++ p ∷ back) (length front) ≡ Some p
get_at [] p back = refl
get_at (q ∷ front) p back = get_at front p back

enforced_at : (front : List Policy) (p : Policy) (back : List Policy) → is_enforce p.disposition ≡ true → IsEnforced (front ++ p ∷ back) (length front)
enforced_at front p back is = record {
  within = slice_get_within (front ++ p ∷ back) (length front) p (get_at front p back);
  is = subst (λ o. MatchOption o ⊥ (λ (q : Policy). IsTrue (is_enforce q.disposition))) (sym (get_at front p back)) is;
}

each_from : (all front ps : List Policy) → all ≡ front ++ ps → All (IsEnforced all) (enforced_from (length front) ps)
each_from all front [] is = All-nil (IsEnforced all)
each_from all front (p ∷ ps) is =
    let next = each_from all (front ++ p ∷ []) ps (is ∙ sym (append_assoc front (p ∷ []) ps)) in
    let rest = subst (λ (n : ℕ). All (IsEnforced all) (enforced_from n ps)) (length_push front p) next in
    elim (cases_Bool (is_enforce p.disposition)) [
      | inl enforces ↦ subst (All (IsEnforced all)) (sym (cond-true _ _ _ enforces))
          (All-cons (IsEnforced all) (length front) (enforced_from (length front + 1) ps) (subst (λ (qs : List Policy). IsEnforced qs (length front)) (sym is) (enforced_at front p ps enforces)) rest)
      | inr reports ↦ subst (All (IsEnforced all)) (sym (cond-false _ _ _ reports)) rest
    ]

pub each_enforced : (list : PolicyList) → All (IsEnforced list.policies) (enforced list)
each_enforced list = each_from list.policies [] list.policies refl

few_from : (n : ℕ) (ps : List Policy) → length (enforced_from n ps) ≤ length ps
few_from n [] = omega arith
few_from n (p ∷ ps) =
    let rest = few_from (n + 1) ps in
    elim (cases_Bool (is_enforce p.disposition)) [
      | inl enforces ↦ subst (λ (ns : List ℕ). length ns ≤ suc (length ps)) (sym (cond-true _ _ _ enforces)) (omega arith)
      | inr reports ↦ subst (λ (ns : List ℕ). length ns ≤ suc (length ps)) (sym (cond-false _ _ _ reports)) (omega arith)
    ]

few_enforced : (list : PolicyList) → length (enforced list) ≤ length list.policies
few_enforced list = few_from 0 list.policies

pub enforced_in : (list : PolicyList) (ps : List ℕ) (i : ℕ) → ps ≡ enforced list → i < length ps → IsEnforced list.policies (get_or ps i 0)
enforced_in list ps i are within = All-get_or (IsEnforced list.policies) ps i 0 within (subst (All (IsEnforced list.policies)) (sym are) (each_enforced list))

-- of a comparison there are no more than a list may have
pub few_policies : (on : Comparison) {walker : Position} → IsReady on walker → length on.policies.items ≤ policy_limit
few_policies on is =
    let few = few_enforced on.lists.second.now in
    let same = ap (λ (ns : List ℕ). length ns) is.policies in
    omega (arith, few, same, is.lists.second.policies)

-- and so small are their numbers
pub small_number : (list : PolicyList) (ps : List ℕ) (i : ℕ) → IsReadable list → ps ≡ enforced list → i < length ps → get_or ps i 0 < policy_limit
small_number list ps i is are inside = omega (arith, (enforced_in list ps i are inside).within, is.policies)
