-- The reason for inline code or style rests on those digests alone whose algorithms the policy's hash-sources name.
use Rattle.std.proofs.Common.{◌≡◌, ◌∙◌, ◌||◌, ap, refl, sym, ℕ, ◌+◌, Bool, true, false, cond, List, [], ◌∷◌, length, Option, Some, None, IsTrue}
use Rattle.std.proofs.lemmas.Bool.{or_left, or_right}
use Rattle.std.specs.List.{cons_option, position_or_len}
use Rattle.std.specs.Option.{option_map}
use Rattle.std.specs.Prelude.{is_none, nat_lt, not}
use Rattle.csp_model.specs.DecideInline.{hash_counts}
use Rattle.csp_model.specs.DecideTokens.{is_hash_of, is_keyword}
use Rattle.csp_model.specs.Governing.{Governor, governor}
use Rattle.csp_model.specs.Inline.{is_element_kind, is_script_kind}
use Rattle.csp_model.specs.Names.{inline_directive}
use Rattle.csp_model.specs.Reading.{first_of}
use Rattle.csp_model.specs.Tokens.{digest_by}
use Rattle.csp_model.specs.declared.check.Check.TheVariants as check
use Rattle.csp_model.specs.declared.check.Digests.{Digests}
use Rattle.csp_model.specs.declared.check.InlineKind.{InlineKind}
use Rattle.csp_model.specs.declared.policy.Directive.{Directive}
use Rattle.csp_model.specs.declared.policy.Policy.{Policy}
use Rattle.csp_model.specs.declared.source.Algorithm.{Algorithm}
use Rattle.csp_model.specs.declared.source.Keyword.TheVariants as keyword
use Rattle.csp_model.specs.declared.source.Source.{Source}
use Rattle.csp_token.proofs.NamedDigests.{agreeing_match}
use Rattle.csp_token.specs.Algorithms.{is_of_algorithm, names}
use Rattle.csp_token.specs.Digests.{AgreeWhereNamed}
use Rattle.csp_verdict.proofs.NamedDigests.{governs_any}
use Rattle.csp_verdict.specs.Algorithms.{policy_names}
use Rattle.csp_why.specs.Allowances.{by, digest_token, inline_allowances, keyword_token, nonce_token, only_where}
use Rattle.csp_why.specs.Displacement.{displaces_unsafe_inline}
use Rattle.csp_why.specs.Near.{near_from, near_inline}
use Rattle.csp_why.specs.Reasons.{governed_reason, reason, reason_by}
use Rattle.csp_why.specs.declared.reason.Allowance.{Allowance}
use Rattle.csp_why.specs.declared.reason.Near.{Near}
use Rattle.csp_why.specs.declared.reason.Reason.TheVariants.{Blocks}
use Rattle.csp_why.specs.declared.reason.Rule.TheVariants as rule
use Rattle.csp_why.specs.declared.reason.Obstacle.{Obstacle}
use Rattle.csp_why.specs.declared.reason.Obstacle.TheVariants as word

or_false : (b : Bool) → (b || false) ≡ b
or_false true = refl
or_false false = refl

module _ (kind : InlineKind) (nonce : List ℕ) (one other : Digests) where
  same_match : (s : Source) → ((x : Algorithm) → is_of_algorithm x s ≡ true → digest_by x one ≡ digest_by x other)
      → is_hash_of one s ≡ is_hash_of other s
  same_match s agree =
      sym (or_false (is_hash_of one s))
      ∙ agreeing_match (s ∷ []) one other (λ x h. agree x (sym (or_false (is_of_algorithm x s)) ∙ h))
      ∙ or_false (is_hash_of other s)

  same_first : (sources : List Source) → AgreeWhereNamed sources one other
      → position_or_len (is_hash_of one) sources ≡ position_or_len (is_hash_of other) sources
  same_first [] agree = refl
  same_first (s ∷ sources) agree =
      ap (λ (b : Bool). cond (not b) (1 + position_or_len (is_hash_of one) sources) 0)
      (same_match s (λ x h. agree x (or_left (is_of_algorithm x s) (names x sources) h)))
      ∙ ap (λ (n : ℕ). cond (not (is_hash_of other s)) (1 + n) 0)
      (same_first sources (λ x h. agree x (or_right (is_of_algorithm x s) (names x sources) h)))

  same_token : (sources : List Source) → AgreeWhereNamed sources one other
      → digest_token one sources ≡ digest_token other sources
  same_token sources agree =
      ap (λ (n : ℕ). cond (nat_lt n (length sources)) (Some n) None) (same_first sources agree)

  same_near : (displaced : Option Obstacle) (n : ℕ) (sources : List Source) → AgreeWhereNamed sources one other
      → near_from (near_inline displaced one) n sources ≡ near_from (near_inline displaced other) n sources
  same_near displaced n [] agree = refl
  same_near displaced n (s ∷ sources) agree =
      let Make : Option Obstacle → List Near → List Near = λ found rest.
      cons_option (option_map (λ w. record { token = n; word = w }) found) rest in
      ap (λ (b : Bool). Make (cond (is_keyword keyword.UnsafeInline s) displaced (cond b (Some word.UnsafeHashes) None))
      (near_from (near_inline displaced one) (n + 1) sources))
      (same_match s (λ x h. agree x (or_left (is_of_algorithm x s) (names x sources) h)))
      ∙ ap (λ (rest : List Near). Make (near_inline displaced other s) rest)
      (same_near displaced (n + 1) sources (λ x h. agree x (or_right (is_of_algorithm x s) (names x sources) h)))

  same_allowances : (counts : Bool) (sources : List Source) → AgreeWhereNamed sources one other
      → inline_allowances counts kind nonce one sources ≡ inline_allowances counts kind nonce other sources
  same_allowances counts sources agree =
      ap (λ (token : Option ℕ). by rule.UnsafeInline (only_where counts (keyword_token keyword.UnsafeInline sources))
      ∷ by rule.Nonce (only_where (is_element_kind kind) (nonce_token nonce sources))
      ∷ by rule.Hash (only_where (hash_counts kind sources) token) ∷ [])
      (same_token sources agree)

  same_governed : (p : Policy) (displaced : Option Obstacle) (g : Governor) (found : Option Allowance)
      → AgreeWhereNamed g.directive.sources one other
      → governed_reason p (check.Inline kind nonce one) displaced g found
      ≡ governed_reason p (check.Inline kind nonce other) displaced g found
  same_governed p displaced g (Some allowance) agree = refl
  same_governed p displaced g None agree =
      ap (λ (near : List Near). Blocks g.name near) (same_near displaced 0 g.directive.sources agree)

  same_by : (p : Policy) (o : Option Governor) → governor p (inline_directive kind) ≡ o
      → ((x : Algorithm) → IsTrue (policy_names x p) → digest_by x one ≡ digest_by x other)
      → reason_by p (check.Inline kind nonce one) o ≡ reason_by p (check.Inline kind nonce other) o
  same_by p None is agree = refl
  same_by p (Some g) is agree =
      let sources = g.directive.sources in
      let displaced : Option Obstacle = displaces_unsafe_inline (is_script_kind kind) sources in
      let there : AgreeWhereNamed sources one other = λ x named.
      agree x (governs_any (λ (d : Directive). names x d.sources) p (inline_directive kind) g is named) in
      ap (λ (all : List (Option Allowance)). governed_reason p (check.Inline kind nonce one) displaced g (first_of all))
      (same_allowances (is_none displaced) sources there)
      ∙ same_governed p displaced g (first_of (inline_allowances (is_none displaced) kind nonce other sources)) there

  pub same_reason : (p : Policy) → ((x : Algorithm) → IsTrue (policy_names x p) → digest_by x one ≡ digest_by x other)
      → reason p (check.Inline kind nonce one) ≡ reason p (check.Inline kind nonce other)
  same_reason p agree = same_by p (governor p (inline_directive kind)) refl agree
