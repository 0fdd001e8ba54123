-- What is known of a kind of shapes stays known, and becomes known.
use Rattle.std.proofs.Common.{◌≡◌, ◌∙◌, sym, subst, ℕ, true, cond, List, inl, inr}
use Rattle.std.specs.Prelude.{Some}
use Rattle.std.specs.BTreeMap.{BTreeMap, get}
use Rattle.std.specs.BTreeSet.{BTreeSet, contains}
use Rattle.std.specs.Global.{Vec}
use Rattle.std.specs.Ordering.{nat_cmp, is_eq}
use Rattle.std.proofs.lemmas.Bool.{cases_Bool, cond-true, cond-false}
use Rattle.std.proofs.lemmas.Map.Lookups.{exact_unsigned}
use Rattle.std.proofs.lemmas.Option.{same_Some}
use Rattle.csp_branch.specs.Walks.{Position}
use Rattle.csp_proof.specs.Pairs.{Pair}
use Rattle.csp_proof.specs.declared.proof.Tree.{Tree}
use Rattle.csp_facts.specs.declared.shape.Shape.{Shape}
use Rattle.csp_compare.specs.Differences.{AreIncluded, IsIncludedAt}
use Rattle.csp_compare.specs.Drafts.{Adds}
use Rattle.csp_compare.specs.Comparisons.{AreKnown, AreShown, IsOfKind, IsReady, lists_of}
use Rattle.csp_compare.specs.declared.comparison.Comparison.{Comparison}
use Rattle.csp_compare.proofs.Adding.{zip_longer}
use Rattle.csp_compare.proofs.SameKind.{all_shown_same, included_same}
use Rattle.csp_compare.proofs.Sharing.{level}

-- Numbers of trees

pub known_longer : (on : Comparison) (ps : List Pair) (old new : List Tree) (known : BTreeMap ℕ (Vec ℕ)) → Adds (lists_of on) ps old new → AreKnown on old known → AreKnown on new known
known_longer on ps old new known adds are kind numbers shape at of =
    zip_longer (lists_of on) shape ps old new on.policies.items numbers.items adds (are kind numbers shape at of)

pub known_insert : (on : Comparison) {walker : Position} (trees : List Tree) (old new : BTreeMap ℕ (Vec ℕ)) (k : ℕ) (v : Vec ℕ) (shape : Shape) → IsReady on walker
    → ((q : ℕ) → get nat_cmp new q ≡ cond (is_eq (nat_cmp k q)) (Some v) (get nat_cmp old q)) → IsOfKind on k shape → AreShown on trees shape v.items
    → AreKnown on trees old → AreKnown on trees new
known_insert on trees old new k v shape is updates here shown are kind numbers other at there = elim (cases_Bool (is_eq (nat_cmp k kind))) [
  | inl same ↦
      let key : k ≡ kind = exact_unsigned k kind (level _ same) in
      let value : v ≡ numbers = same_Some _ _ (sym (updates kind ∙ cond-true _ _ _ same) ∙ at) in
      subst (λ (w : Vec ℕ). AreShown on trees other w.items) value
      (all_shown_same on _ is kind shape other (subst (λ (n : ℕ). IsOfKind on n shape) key here) there trees v.items shown)
  | inr apart ↦ are kind numbers other (sym (updates kind ∙ cond-false _ _ _ apart) ∙ at) there
]

-- Kinds at which the second list allows what the first allows

pub included_insert : (on : Comparison) {walker : Position} (old new : BTreeSet ℕ) (k : ℕ) (shape : Shape) → IsReady on walker
    → ((q : ℕ) → contains nat_cmp new q ≡ cond (is_eq (nat_cmp k q)) true (contains nat_cmp old q)) → IsOfKind on k shape → IsIncludedAt on shape
    → AreIncluded on old → AreIncluded on new
included_insert on old new k shape is updates here included are kind other has there = elim (cases_Bool (is_eq (nat_cmp k kind))) [
  | inl same ↦
      let key : k ≡ kind = exact_unsigned k kind (level _ same) in
      included_same on _ is kind shape other (subst (λ (n : ℕ). IsOfKind on n shape) key here) there included
  | inr apart ↦ are kind other (sym (updates kind ∙ cond-false _ _ _ apart) ∙ has) there
]
