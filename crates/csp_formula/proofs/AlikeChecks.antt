-- Checks on which the atoms of a list agree are allowed alike.
use Rattle.std.proofs.Common.{◌≡◌, ◌∙◌, ◌++◌, ◌&&◌, ◌||◌, not, ap, ap₂, refl, sym, Bool, false, List, [], ◌∷◌, All}
use Rattle.std.proofs.lemmas.List.Elements.{All-cons, All-head, All-nil, All-tail}
use Rattle.std.specs.List.{list_all}
use Rattle.csp_model.specs.DecideVerdict.{allows}
use Rattle.csp_model.specs.Policies.{IsReadable, IsReadablePolicy}
use Rattle.csp_model.specs.Validity.{IsValidCheck}
use Rattle.csp_model.specs.Verdict.{is_enforce, list_allows}
use Rattle.csp_model.specs.declared.check.Check.{Check}
use Rattle.csp_model.specs.declared.policy.Policy.{Policy}
use Rattle.csp_model.specs.declared.policy.PolicyList.{PolicyList}
use Rattle.csp_model.specs.declared.source.Hash.{Hash}
use Rattle.csp_facts.specs.Holding.{holds}
use Rattle.csp_facts.specs.declared.atom.Atom.{Atom}
use Rattle.csp_facts.specs.Shapes.{HasShape}
use Rattle.csp_facts.specs.declared.shape.Shape.{Shape}
use Rattle.csp_formula.specs.Compiled.{HasHashesOf, policy_sentence}
use Rattle.csp_formula.specs.Sentences.{Sentence, Known, Fact, Not, Both, Either}
use Rattle.csp_formula.specs.Values.{atoms_in, is_true_for}
use Rattle.csp_formula.specs.Strangers.{AgreeOn, HaveHashesOf, NoneNames}

module _ {X : Type 0} (P : X → Type 0) where
  all_front : (xs ys : List X) → All P (xs ++ ys) → All P xs
  all_front [] ys each = All-nil P
  all_front (x ∷ xs) ys each =
      All-cons P x xs (All-head P x (xs ++ ys) each) (all_front xs ys (All-tail P x (xs ++ ys) each))

  all_back : (xs ys : List X) → All P (xs ++ ys) → All P ys
  all_back [] ys each = each
  all_back (x ∷ xs) ys each = all_back xs ys (All-tail P x (xs ++ ys) each)

-- what a sentence says of a shape is what the policy allows
abbrev pub SaysIt : Type 0
SaysIt =
    (policy : Policy) (kind : Shape) (hashes : List Hash) (asked : Check) → IsReadablePolicy policy
    → HasHashesOf hashes policy → IsValidCheck asked → HasShape asked kind
    → is_true_for hashes asked (policy_sentence policy kind hashes) ≡ allows policy asked

module _ (hashes : List Hash) (one other : Check) where
  abbrev Agrees : Atom → Type 0
  Agrees a = holds hashes one a ≡ holds hashes other a

  same_value : (s : Sentence) → All Agrees (atoms_in s) → is_true_for hashes one s ≡ is_true_for hashes other s
  same_value (Known b) each = refl
  same_value (Fact a) each = All-head Agrees a [] each
  same_value (Not x) each = ap not (same_value x each)
  same_value (Both x y) each =
      ap₂ (λ (a b : Bool). a && b) (same_value x (all_front Agrees (atoms_in x) (atoms_in y) each))
      (same_value y (all_back Agrees (atoms_in x) (atoms_in y) each))
  same_value (Either x y) each =
      ap₂ (λ (a b : Bool). a || b) (same_value x (all_front Agrees (atoms_in x) (atoms_in y) each))
      (same_value y (all_back Agrees (atoms_in x) (atoms_in y) each))

  module _ (says : SaysIt) (kind : Shape) (valid : IsValidCheck one) (valid_other : IsValidCheck other)
      (shaped : HasShape one kind) (shaped_other : HasShape other kind) where
    abbrev AgreesOn : Policy → Type 0
    AgreesOn p = All Agrees (atoms_in (policy_sentence p kind hashes))

    same_policy : (p : Policy) → IsReadablePolicy p → HasHashesOf hashes p → AgreesOn p → allows p one ≡ allows p other
    same_policy p readable has agrees =
        sym (says p kind hashes one readable has valid shaped)
        ∙ same_value (policy_sentence p kind hashes) agrees
        ∙ says p kind hashes other readable has valid_other shaped_other

    same_policies : (ps : List Policy) → All IsReadablePolicy ps → All (HasHashesOf hashes) ps → All AgreesOn ps
        → list_all (λ (p : Policy). not (is_enforce p.disposition) || allows p one) ps
        ≡ list_all (λ (p : Policy). not (is_enforce p.disposition) || allows p other) ps
    same_policies [] readable has agrees = refl
    same_policies (p ∷ ps) readable has agrees =
        ap₂ (λ (here rest : Bool). (not (is_enforce p.disposition) || here) && rest)
        (same_policy p (All-head IsReadablePolicy p ps readable) (All-head (HasHashesOf hashes) p ps has)
        (All-head AgreesOn p ps agrees))
        (same_policies ps (All-tail IsReadablePolicy p ps readable) (All-tail (HasHashesOf hashes) p ps has)
        (All-tail AgreesOn p ps agrees))

pub allowed_alike : SaysIt → (list : PolicyList) (kind : Shape) (hashes : List Hash) (one other : Check)
    → IsReadable list → HaveHashesOf hashes list → IsValidCheck one → IsValidCheck other
    → HasShape one kind → HasShape other kind → AgreeOn list kind hashes one other
    → list_allows list one ≡ list_allows list other
allowed_alike says list kind hashes one other readable has valid valid_other shaped shaped_other agrees =
    same_policies hashes one other says kind valid valid_other shaped shaped_other list.policies readable.each has agrees

-- atoms that name neither agree
pub none_agree : (names names_other : Atom → Bool) (list : PolicyList) (kind : Shape) (hashes : List Hash) (one other : Check)
    → ((a : Atom) → names a ≡ false → names_other a ≡ false → holds hashes one a ≡ holds hashes other a)
    → NoneNames names list kind hashes → NoneNames names_other list kind hashes → AgreeOn list kind hashes one other
none_agree names names_other list kind hashes one other agree none none_other =
    λ k d within j a inside. agree _ (none k d within j a inside) (none_other k d within j a inside)
