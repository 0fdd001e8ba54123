-- What is printed of inline code or style rests on those digests alone whose algorithms the list's hash-sources name.
use Rattle.std.proofs.Common.{◌≡◌, ◌∙◌, ◌+◌, ◌++◌, ◌||◌, ap, refl, sym, cond, ℕ, Bool, true, false, List, [], ◌∷◌, Option, Some, None, IsTrue}
use Rattle.std.proofs.lemmas.Bool.{or_left, or_right}
use Rattle.std.specs.List.{filter, list_any}
use Rattle.std.specs.Prelude.{codes, decimal}
use Rattle.csp_model.specs.Ascii.{is_nonempty}
use Rattle.csp_model.specs.Governing.{Governor, governor}
use Rattle.csp_model.specs.Names.{inline_directive}
use Rattle.csp_model.specs.Tokens.{digest_by}
use Rattle.csp_model.specs.Verdict.{list_allows, verdict_of}
use Rattle.csp_model.specs.declared.check.Check.{Check}
use Rattle.csp_model.specs.declared.check.Check.TheVariants as check
use Rattle.csp_model.specs.declared.check.Digests.{Digests}
use Rattle.csp_model.specs.declared.check.InlineKind.{InlineKind}
use Rattle.csp_model.specs.declared.policy.Policy.{Policy}
use Rattle.csp_model.specs.declared.policy.PolicyList.{PolicyList}
use Rattle.csp_model.specs.declared.source.Algorithm.{Algorithm}
use Rattle.csp_model.specs.declared.url.Url.{Url}
use Rattle.csp_model.specs.declared.verdict.Verdict.{Verdict}
use Rattle.csp_output.specs.Lines.{verdict_line}
use Rattle.csp_token.specs.Digests.{digests_for, digests_of}
use Rattle.csp_verdict.proofs.NamedDigests.{wanted_agree, wanted_verdict}
use Rattle.csp_verdict.specs.Algorithms.{AgreeWhereNamed, algorithms_of, policy_names}
use Rattle.csp_why.proofs.NamedDigests.{same_reason}
use Rattle.csp_why.specs.Missing.{missing_by, missing_url}
use Rattle.csp_why.specs.Reasons.{reason}
use Rattle.csp_why.specs.declared.reason.Reason.{Reason}
use Rattle.csp_why.specs.declared.reason.Reason.TheVariants.{Allows, Blocks, Ungoverned}
use Rattle.csp_output.specs.Explanations.{Explained, checks_text, governing_tokens, is_refused, joined, missing_text, policies_from, policy_text}
use Rattle.csp_output.specs.Explanations.{reason_text, reasons_text, told_checks, with_request}

module _ (kind : InlineKind) (nonce : List ℕ) (one other : Digests) where
  -- inline code and style have no URL
  same_missing : (r : Reason) (o : Option Governor)
      → missing_by (check.Inline kind nonce one) r o ≡ missing_by (check.Inline kind nonce other) r o
  same_missing Ungoverned o = refl
  same_missing (Allows directive by) o = refl
  same_missing (Blocks directive near) None = refl
  same_missing (Blocks directive near) (Some g) = refl

  same_policy : (n : ℕ) (p : Policy)
      → ((x : Algorithm) → IsTrue (policy_names x p) → digest_by x one ≡ digest_by x other)
      → policy_text n p (check.Inline kind nonce one) ≡ policy_text n p (check.Inline kind nonce other)
  same_policy n p agree =
      let tokens = governing_tokens p (check.Inline kind nonce one) in
      let found : Reason = reason p (check.Inline kind nonce other) in
      ap (λ (r : Reason). joined (codes "  " ∷ decimal n ∷ codes " " ∷ [])
      ++ (reason_text p.disposition tokens r ++ missing_text r (missing_url p (check.Inline kind nonce one) r)))
      (same_reason kind nonce one other p agree)
      ∙ ap (λ (o : Option Url). joined (codes "  " ∷ decimal n ∷ codes " " ∷ [])
      ++ (reason_text p.disposition tokens found ++ missing_text found o))
      (same_missing found (governor p (inline_directive kind)))

  same_policies : (n : ℕ) (ps : List Policy)
      → ((x : Algorithm) → IsTrue (list_any (policy_names x) ps) → digest_by x one ≡ digest_by x other)
      → policies_from n ps (check.Inline kind nonce one) ≡ policies_from n ps (check.Inline kind nonce other)
  same_policies n [] agree = refl
  same_policies n (p ∷ ps) agree =
      ap (λ (text : List ℕ). text ++ policies_from (n + 1) ps (check.Inline kind nonce one))
      (same_policy n p (λ x named. agree x (or_left (policy_names x p) (list_any (policy_names x) ps) named)))
      ∙ ap (λ (text : List ℕ). policy_text n p (check.Inline kind nonce other) ++ text)
      (same_policies (n + 1) ps (λ x named. agree x (or_right (policy_names x p) (list_any (policy_names x) ps) named)))

-- one check alone is told, whether some policy doesn't allow it or each does
only_one : (list : PolicyList) (asked : Check) → told_checks list (asked ∷ []) ≡ asked ∷ []
only_one list asked = only (list_allows list asked) (is_refused list asked) where
  only : (allowed refused : Bool)
      → cond (is_nonempty (cond refused (asked ∷ filter (is_refused list) (cond allowed [] [])) (filter (is_refused list) (cond allowed [] []))))
      (cond refused (asked ∷ filter (is_refused list) (cond allowed [] [])) (filter (is_refused list) (cond allowed [] [])))
      (asked ∷ []) ≡ asked ∷ []
  only true true = refl
  only true false = refl
  only false true = refl
  only false false = refl

same_reasons : (list : PolicyList) (kind : InlineKind) (nonce : List ℕ) (one other : Digests)
    → AgreeWhereNamed list one other
    → reasons_text list (check.Inline kind nonce one ∷ []) ≡ reasons_text list (check.Inline kind nonce other ∷ [])
same_reasons list kind nonce one other agree =
    ap (checks_text list.policies) (only_one list (check.Inline kind nonce one))
    ∙ ap (λ (text : List ℕ). text ++ []) (same_policies kind nonce one other 0 list.policies agree)
    ∙ sym (ap (checks_text list.policies) (only_one list (check.Inline kind nonce other)))

-- the digests of the wanted algorithms alone make no difference to what is explained
pub same_explained : (e : Explained) (n : ℕ) (kind : InlineKind) (nonce source : List ℕ)
    → with_request e n (check.Inline kind nonce (digests_for source (algorithms_of e.list)) ∷ [])
    ≡ with_request e n (check.Inline kind nonce (digests_of source) ∷ [])
same_explained e n kind nonce source =
    let wanted : List Check = check.Inline kind nonce (digests_for source (algorithms_of e.list)) ∷ [] in
    let all : List Check = check.Inline kind nonce (digests_of source) ∷ [] in
    let Make : Verdict → List ℕ → Explained = λ v reasons. record {
      list = e.list;
      blocked = e.blocked || v.blocked;
      text = e.text ++ (verdict_line n v ++ reasons);
    } in
    ap (λ (v : Verdict). Make v (reasons_text e.list wanted)) (wanted_verdict e.list kind nonce source)
    ∙ ap (Make (verdict_of e.list all)) (same_reasons e.list kind nonce (digests_for source (algorithms_of e.list))
    (digests_of source) (wanted_agree e.list source))
