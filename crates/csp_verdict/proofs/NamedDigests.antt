-- The verdict on inline code or style rests on those digests alone whose algorithms the list's hash-sources name.
use Rattle.std.proofs.Common.{◌≡◌, ℕ, ◌+◌, Bool, true, false, ◌&&◌, ◌||◌, cond, List, [], ◌∷◌, ◌++◌, Option, Some, None, IsTrue, refl, sym, ap, ◌∙◌}
use Rattle.std.proofs.lemmas.Bool.{cond-true, or_left, or_right}
use Rattle.std.specs.List.{list_any, find, filter_map, flat_map, cons_option}
use Rattle.std.specs.Option.{option_map}
use Rattle.csp_model.specs.DecideGoverning.{allows_by}
use Rattle.csp_model.specs.DecideInline.{allows_all_inline, hash_counts, sources_allow_inline}
use Rattle.csp_model.specs.DecideTokens.{nonce_matches}
use Rattle.csp_model.specs.Governing.{Governor, governor, governor_named, is_named}
use Rattle.csp_model.specs.Inline.{is_element_kind}
use Rattle.csp_model.specs.Names.{inline_directive}
use Rattle.csp_model.specs.Tokens.{digest_by}
use Rattle.csp_model.specs.Verdict.{item_of, items_from, items_of, list_allows, judged_checks, verdict_of, check_violations, violations_of}
use Rattle.csp_model.proofs.VerdictLaws.{item_by, verdict_with}
use Rattle.csp_model.specs.declared.check.Check.{Check}
use Rattle.csp_model.specs.declared.check.Check.TheVariants as check
use Rattle.csp_model.specs.declared.check.Digests.{Digests}
use Rattle.csp_model.specs.declared.check.InlineKind.{InlineKind}
use Rattle.csp_model.specs.declared.name.Name.{Name}
use Rattle.csp_model.specs.declared.policy.Directive.{Directive}
use Rattle.csp_model.specs.declared.policy.Policy.{Policy}
use Rattle.csp_model.specs.declared.policy.PolicyList.{PolicyList}
use Rattle.csp_model.specs.declared.source.Algorithm.{Algorithm}
use Rattle.csp_model.specs.declared.source.Algorithm.TheVariants.{Sha256, Sha384, Sha512}
use Rattle.csp_model.specs.declared.verdict.Item.{Item}
use Rattle.csp_token.proofs.NamedDigests.{agreeing_match}
use Rattle.csp_token.specs.Algorithms.{names}
use Rattle.csp_token.specs.Digests.{digests_for, digests_of}
use Rattle.csp_verdict.proofs.Entries.{governs_named}
use Rattle.csp_verdict.specs.Algorithms.{policy_names, list_names, algorithms_of, AgreeWhereNamed, inline_request}
use Rattle.csp_verdict.specs.Reported.{violation_at}

-- what is found, where it passes another test, is an item that passes
find_any : (p q : Directive → Bool) (ds : List Directive) (d : Directive) → find p ds ≡ Some d → q d ≡ true → list_any q ds ≡ true
find_any p q [] d e h = cc
find_any p q (x ∷ ds) d e h =
    elim (p x) as (λ b. cond b (Some x) (find p ds) ≡ Some d → (q x || list_any q ds) ≡ true) [
      | true ↦ λ (here : Some x ≡ Some d).
          let same : x ≡ d = ap (λ (o : Option Directive). elim o [ None ↦ x | Some y ↦ y ]) here in
          ap (λ (b : Bool). b || list_any q ds) (ap q same ∙ h)
      | false ↦ λ (later : find p ds ≡ Some d).
          ap (λ (b : Bool). q x || b) (find_any p q ds d later h) ∙ or_is_true (q x)
    ] e where
      or_is_true : (b : Bool) → (b || true) ≡ true
      or_is_true true = refl
      or_is_true false = refl

named_any : (q : Directive → Bool) (name : Name) (ds : List Directive) (o : Option Directive) (g : Governor) → find (is_named name) ds ≡ o
    → option_map (λ d. record { name = name; directive = d }) o ≡ Some g → q g.directive ≡ true → list_any q ds ≡ true
named_any q name ds None g is e h = cc
named_any q name ds (Some d) g is e h =
    let same : d ≡ g.directive = ap (λ (o : Option Governor). elim o [ None ↦ d | Some k ↦ k.directive ]) e in
    find_any (is_named name) q ds d is (ap q same ∙ h)

-- what governs is a directive of the policy
pub governs_any : (q : Directive → Bool) (p : Policy) (effective : Name) (g : Governor) → governor p effective ≡ Some g
    → q g.directive ≡ true → list_any q p.directives ≡ true
unfolding governor_named
governs_any q p effective g some h =
    named_any q g.name p.directives (find (is_named g.name) p.directives) g refl (governs_named p effective g some) h

module _ (kind : InlineKind) (nonce : List ℕ) (first second : Digests) where
  by_sources : (o : Option Governor) (p : Policy) → governor p (inline_directive kind) ≡ o
      → ((algorithm : Algorithm) → IsTrue (policy_names algorithm p) → digest_by algorithm first ≡ digest_by algorithm second)
      → allows_by o (λ g. sources_allow_inline kind nonce first g.directive.sources)
      ≡ allows_by o (λ g. sources_allow_inline kind nonce second g.directive.sources)
  by_sources None p is agree = refl
  by_sources (Some g) p is agree =
      ap (λ (b : Bool). allows_all_inline kind g.directive.sources
      || ((is_element_kind kind && nonce_matches nonce g.directive.sources) || (b && hash_counts kind g.directive.sources)))
      (agreeing_match g.directive.sources first second (λ algorithm named.
      agree algorithm (governs_any (λ (d : Directive). names algorithm d.sources) p (inline_directive kind) g is named)))

  same_item : (n : ℕ) (p : Policy)
      → ((algorithm : Algorithm) → IsTrue (policy_names algorithm p) → digest_by algorithm first ≡ digest_by algorithm second)
      → item_of n p (check.Inline kind nonce first) ≡ item_of n p (check.Inline kind nonce second)
  same_item n p agree =
      ap (λ (b : Bool). cond b None (option_map (item_by n p (check.Inline kind nonce first)) (governor p (inline_directive kind))))
      (by_sources (governor p (inline_directive kind)) p refl agree)

  same_items : (n : ℕ) (ps : List Policy)
      → ((algorithm : Algorithm) → IsTrue (list_any (policy_names algorithm) ps) → digest_by algorithm first ≡ digest_by algorithm second)
      → items_from n ps (check.Inline kind nonce first) ≡ items_from n ps (check.Inline kind nonce second)
  same_items n [] agree = refl
  same_items n (p ∷ ps) agree =
      ap (λ (o : Option Item). cons_option o (items_from (n + 1) ps (check.Inline kind nonce first)))
      (same_item n p (λ algorithm named. agree algorithm (or_left (policy_names algorithm p) (list_any (policy_names algorithm) ps) named)))
      ∙ ap (λ (items : List Item). cons_option (item_of n p (check.Inline kind nonce second)) items)
      (same_items (n + 1) ps (λ algorithm named. agree algorithm (or_right (policy_names algorithm p) (list_any (policy_names algorithm) ps) named)))

one_check : (list : PolicyList) (asked : Check) → judged_checks list (asked ∷ []) ≡ asked ∷ []
one_check list asked = elim (list_allows list asked) as (λ b. asked ∷ cond b [] [] ≡ asked ∷ []) [ true ↦ refl | false ↦ refl ]

one_verdict : (list : PolicyList) (asked : Check) → verdict_of list (asked ∷ []) ≡ verdict_with (items_of list asked ++ [])
one_verdict list asked = ap (λ (checks : List Check). verdict_with (flat_map (items_of list) checks)) (one_check list asked)

pub agreeing_verdict : (list : PolicyList) (kind : InlineKind) (nonce : List ℕ) (first second : Digests)
    → AgreeWhereNamed list first second
    → verdict_of list (check.Inline kind nonce first ∷ []) ≡ verdict_of list (check.Inline kind nonce second ∷ [])
agreeing_verdict list kind nonce first second agree =
    one_verdict list (check.Inline kind nonce first)
    ∙ ap (λ (items : List Item). verdict_with (items ++ [])) (same_items kind nonce first second 0 list.policies agree)
    ∙ sym (one_verdict list (check.Inline kind nonce second))

pub agreeing_violations : (list : PolicyList) (kind : InlineKind) (nonce : List ℕ) (first second : Digests)
    (blocked_uri sample : List ℕ) → AgreeWhereNamed list first second
    → violations_of list (inline_request kind nonce first blocked_uri sample)
    ≡ violations_of list (inline_request kind nonce second blocked_uri sample)
agreeing_violations list kind nonce first second blocked_uri sample agree =
    let one = inline_request kind nonce first blocked_uri sample in
    let other = inline_request kind nonce second blocked_uri sample in
    ap (flat_map (check_violations list one)) (one_check list (check.Inline kind nonce first))
    ∙ ap (λ (items : List Item). filter_map (violation_at list.policies one (check.Inline kind nonce first)) items ++ [])
    (same_items kind nonce first second 0 list.policies agree)
    ∙ sym (ap (flat_map (check_violations list other)) (one_check list (check.Inline kind nonce second)))

pub wanted_agree : (list : PolicyList) (source : List ℕ)
    → AgreeWhereNamed list (digests_for source (algorithms_of list)) (digests_of source)
wanted_agree list source Sha256 named = cond-true (list_names Sha256 list) _ _ named
wanted_agree list source Sha384 named = cond-true (list_names Sha384 list) _ _ named
wanted_agree list source Sha512 named = cond-true (list_names Sha512 list) _ _ named

pub wanted_verdict : (list : PolicyList) (kind : InlineKind) (nonce : List ℕ) (source : List ℕ)
    → verdict_of list (check.Inline kind nonce (digests_for source (algorithms_of list)) ∷ [])
    ≡ verdict_of list (check.Inline kind nonce (digests_of source) ∷ [])
wanted_verdict list kind nonce source =
    agreeing_verdict list kind nonce (digests_for source (algorithms_of list)) (digests_of source) (wanted_agree list source)

pub wanted_violations : (list : PolicyList) (kind : InlineKind) (nonce : List ℕ) (source : List ℕ)
    (blocked_uri sample : List ℕ)
    → violations_of list (inline_request kind nonce (digests_for source (algorithms_of list)) blocked_uri sample)
    ≡ violations_of list (inline_request kind nonce (digests_of source) blocked_uri sample)
wanted_violations list kind nonce source blocked_uri sample =
    agreeing_violations list kind nonce (digests_for source (algorithms_of list)) (digests_of source) blocked_uri sample
    (wanted_agree list source)
