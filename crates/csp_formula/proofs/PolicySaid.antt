-- What a policy says of the checks of a shape is whether it allows them.
use Rattle.std.proofs.Common.{◌≡◌, ◌∙◌, sym, ap, refl, subst, ℕ, Bool, true, false, ◌&&◌, ◌||◌, not, List, [], ◌∷◌, map, Option, Some, None, All, Contains, IfSome}
use Rattle.std.specs.Prelude.{if◌then◌else◌}
use Rattle.std.specs.List.{filter_map}
use Rattle.std.proofs.lemmas.Bool.{false≢true}
use Rattle.std.proofs.lemmas.List.Elements.{All-nil, All-cons, All-head, All-tail, All-contains}
use Rattle.csp_model.specs.DecideFetch.{dynamic_or_listed, sources_allow}
use Rattle.csp_model.specs.DecideGoverning.{allows_by}
use Rattle.csp_model.specs.DecideInline.{allows_all_inline, hash_counts, sources_allow_inline}
use Rattle.csp_model.specs.DecideMatching.{list_matches}
use Rattle.csp_model.specs.DecideTokens.{has_keyword, nonce_matches, integrity_matches, digests_match}
use Rattle.csp_model.specs.DecideVerdict.{allows}
use Rattle.csp_model.specs.Fetch.{fetch_rule, is_redirected}
use Rattle.csp_model.specs.Governing.{Governor, governor}
use Rattle.csp_model.specs.Grammar.{IsSource}
use Rattle.csp_model.specs.Inline.{is_element_kind}
use Rattle.csp_model.specs.Names.{group_directive, inline_directive}
use Rattle.csp_model.specs.Parts.{checked_url, checked_nonce, checked_integrity, checked_digests}
use Rattle.csp_model.specs.Policies.{IsReadablePolicy}
use Rattle.csp_model.specs.Reading.{source_of}
use Rattle.csp_model.specs.Validity.{IsValidUrl, IsValidCheck, IsValidDigests, IsOriginUrl}
use Rattle.csp_model.specs.declared.check.Check.{Check}
use Rattle.csp_model.specs.declared.check.Check.TheVariants as check
use Rattle.csp_model.specs.declared.check.Digests.{Digests}
use Rattle.csp_model.specs.declared.check.FetchRule.{FetchRule}
use Rattle.csp_model.specs.declared.check.FetchRule.TheVariants as rule
use Rattle.csp_model.specs.declared.check.Group.{Group}
use Rattle.csp_model.specs.declared.check.Group.TheVariants as group
use Rattle.csp_model.specs.declared.check.InlineKind.{InlineKind}
use Rattle.csp_model.specs.declared.name.Name.{Name}
use Rattle.csp_model.specs.declared.name.Name.TheVariants.{BaseUri, FormAction, FrameAncestors}
use Rattle.csp_model.specs.declared.policy.Directive.{Directive}
use Rattle.csp_model.specs.declared.policy.Policy.{Policy}
use Rattle.csp_model.specs.declared.source.Hash.{Hash}
use Rattle.csp_model.specs.declared.source.Keyword.TheVariants as keyword
use Rattle.csp_model.specs.declared.source.Source.{Source}
use Rattle.csp_model.specs.declared.url.Url.{Url}
use Rattle.csp_model.specs.declared.url.Url.TheVariants as url
use Rattle.csp_facts.proofs.HoldingDecided.{has_hash_decides}
use Rattle.csp_facts.specs.Holding.{has_hash}
use Rattle.csp_facts.specs.Vocabulary.{hash_of_source}
use Rattle.csp_facts.specs.Shapes.{HasShape, hosted_scheme, tells_parser}
use Rattle.csp_facts.specs.declared.shape.Shape.{Shape}
use Rattle.csp_facts.specs.declared.shape.Shape.TheVariants as shape
use Rattle.csp_facts.proofs.Checks.{shape_of, is_only}
use Rattle.csp_formula.specs.Sentences.{Sentence, Known, any_of}
use Rattle.csp_formula.specs.Sources.{list_sentence, shape_scheme, after_redirect, is_ancestor}
use Rattle.csp_formula.specs.Compiled.{nonces_sentence, integrity_sentence, digests_sentence, fetch_sentence, only_where, inline_sentence, said_by, listed_sentence, policy_sentence, HasHashesOf}
use Rattle.csp_formula.specs.Values.{is_true_for}
use Rattle.csp_formula.proofs.DigestsSaid.{digests_said}
use Rattle.csp_formula.proofs.Governs.{governs}
use Rattle.csp_formula.proofs.ReadSources.{read_as}
use Rattle.csp_formula.proofs.SourcesSaid.{IsReadSource, IsFixedPath, list_said, or_false}
use Rattle.csp_formula.proofs.TokensSaid.{nonces_said, integrity_said}

-- Rules

three : (a b c d e f : Bool) → a ≡ d → b ≡ e → c ≡ f → (a || (b || (c || false))) ≡ (d || (e || f))
three a b c d e f ad be cf =
    ap (λ x. x || (b || (c || false))) ad ∙ ap (λ x. d || (x || (c || false))) be ∙ ap (λ x. d || (e || x)) (or_false c ∙ cf)

two : (a b c d : Bool) → a ≡ c → b ≡ d → (a || (b || false)) ≡ (c || d)
two a b c d ac bd = ap (λ x. x || (b || false)) ac ∙ ap (λ x. c || x) (or_false b ∙ bd)

turned : (a b : Bool) → (a && b) ≡ (b && a)
turned true true = refl
turned true false = refl
turned false true = refl
turned false false = refl

-- the flag of a script's shape is that of its checks
parser_told : (kind : Group) (name : Name) (inserted : Bool) → fetch_rule kind name ≡ rule.Script → (tells_parser kind && inserted) ≡ inserted
parser_told group.ScriptElem name inserted e = refl
parser_told group.Worker name inserted e = refl
parser_told group.Connect name inserted e = cc e
parser_told group.Font name inserted e = cc e
parser_told group.Frame name inserted e = cc e
parser_told group.Img name inserted e = cc e
parser_told group.Manifest name inserted e = cc e
parser_told group.Media name inserted e = cc e
parser_told group.Object name inserted e = cc e
parser_told group.StyleElem name inserted e = cc e

abbrev Held : List Hash → List Source → Type 0
Held hashes sources = (h : Hash) → has_hash (filter_map hash_of_source sources) h ≡ true → has_hash hashes h ≡ true

module _ (hashes : List Hash) (asked : Check) where
  dynamic_by : (dynamic parser inserted : Bool) (listed : Sentence) (matched : Bool) → parser ≡ inserted → is_true_for hashes asked listed ≡ matched
      → is_true_for hashes asked (if dynamic then Known (not parser) else listed) ≡ ((dynamic && not inserted) || (not dynamic && matched))
  dynamic_by true parser inserted listed matched same e = ap not same ∙ sym (or_false (not inserted))
  dynamic_by false parser inserted listed matched same e = e

  fetch_said : (by : FetchRule) (sources : List Source) (nonce : List ℕ) (integrity : List Hash) (parser inserted : Bool) (listed : Sentence) (matched : Bool)
      → checked_nonce asked ≡ Some nonce → checked_integrity asked ≡ Some integrity → All IsReadSource sources → Held hashes sources
      → (by ≡ rule.Script → parser ≡ inserted) → is_true_for hashes asked listed ≡ matched
      → is_true_for hashes asked (fetch_sentence by hashes sources parser listed) ≡ sources_allow by sources nonce integrity inserted matched
  fetch_said rule.Script sources nonce integrity parser inserted listed matched with_nonce with_integrity read held told e =
      let dynamic = has_keyword keyword.StrictDynamic sources in
      three (is_true_for hashes asked (nonces_sentence sources)) (is_true_for hashes asked (integrity_sentence hashes sources))
      (is_true_for hashes asked (if dynamic then Known (not parser) else listed))
      (nonce_matches nonce sources) (integrity_matches integrity sources) (dynamic_or_listed sources inserted matched)
      (nonces_said hashes asked nonce with_nonce sources read) (integrity_said hashes asked integrity with_integrity sources held)
      (dynamic_by dynamic parser inserted listed matched (told refl) e)
  fetch_said rule.Style sources nonce integrity parser inserted listed matched with_nonce with_integrity read held told e =
      two (is_true_for hashes asked (nonces_sentence sources)) (is_true_for hashes asked listed) (nonce_matches nonce sources) matched
      (nonces_said hashes asked nonce with_nonce sources read) e
  fetch_said rule.List sources nonce integrity parser inserted listed matched with_nonce with_integrity read held told e = e

  where_said : (test : Bool) (says : Sentence) (b : Bool) → is_true_for hashes asked says ≡ b → is_true_for hashes asked (only_where test says) ≡ (test && b)
  where_said true says b e = e
  where_said false says b e = refl

  inline_by : (all : Bool) (which : InlineKind) (sources : List Source) (nonce : List ℕ) (digests : Digests)
      → checked_nonce asked ≡ Some nonce → checked_digests asked ≡ Some digests → IsValidDigests digests → All IsReadSource sources
      → is_true_for hashes asked (if all then Known true else any_of (only_where (is_element_kind which) (nonces_sentence sources) ∷ only_where (hash_counts which sources) (digests_sentence sources) ∷ []))
      ≡ (all || ((is_element_kind which && nonce_matches nonce sources) || (digests_match digests sources && hash_counts which sources)))
  inline_by true which sources nonce digests with_nonce with_digests valid read = refl
  inline_by false which sources nonce digests with_nonce with_digests valid read =
      two (is_true_for hashes asked (only_where (is_element_kind which) (nonces_sentence sources))) (is_true_for hashes asked (only_where (hash_counts which sources) (digests_sentence sources)))
      (is_element_kind which && nonce_matches nonce sources) (digests_match digests sources && hash_counts which sources)
      (where_said (is_element_kind which) (nonces_sentence sources) (nonce_matches nonce sources) (nonces_said hashes asked nonce with_nonce sources read))
      (where_said (hash_counts which sources) (digests_sentence sources) (digests_match digests sources) (digests_said hashes asked digests with_digests valid sources read)
      ∙ turned (hash_counts which sources) (digests_match digests sources))

  governed : (o : Option Governor) (says : Governor → Sentence) (test : Governor → Bool) → IfSome o (λ g. is_true_for hashes asked (says g) ≡ test g)
      → is_true_for hashes asked (said_by o says) ≡ allows_by o test
  governed None says test each = refl
  governed (Some g) says test each = each

-- Policies

abbrev IsGood : List Hash → Directive → Type 0
IsGood hashes d = All IsReadSource d.sources × Held hashes d.sources

held_by : (hashes : List Hash) (sources : List Source) → All (Contains hashes) (filter_map hash_of_source sources) → Held hashes sources
held_by hashes sources all h has =
    (has_hash_decides hashes h).1 (All-contains (Contains hashes) (filter_map hash_of_source sources) h all ((has_hash_decides (filter_map hash_of_source sources) h).0 has))

if_some : {A : Type 0} (P Q : A → Type 0) → ((a : A) → P a → Q a) → (o : Option A) → IfSome o P → IfSome o Q
if_some P Q each None h = tt
if_some P Q each (Some a) h = each a h

unfixed : (kind : Shape) → is_ancestor kind ≡ false → (there : Url) → IsFixedPath kind there
unfixed kind other (url.Plain part) = tt
unfixed kind other (url.Hosted scheme host port path) = λ e. absurd (false≢true (sym other ∙ e))

fixed : (kind : Shape) (there : Url) → IsOriginUrl there → IsFixedPath kind there
fixed kind (url.Plain part) single = tt
fixed kind (url.Hosted scheme host port path) single = λ e. single

module _ (tokens_read : (token : List ℕ) → IsSource token (source_of token)) where
  read_all : (tokens : List (List ℕ)) → All IsReadSource (map source_of tokens)
  read_all [] = All-nil IsReadSource
  read_all (token ∷ tokens) = All-cons IsReadSource (source_of token) (map source_of tokens) (read_as token (source_of token) (tokens_read token)) (read_all tokens)

  good_all : (hashes : List Hash) (ds : List Directive) → All (λ (d : Directive). d.sources ≡ map source_of d.tokens) ds
      → All (λ (d : Directive). All (Contains hashes) (filter_map hash_of_source d.sources)) ds → All (IsGood hashes) ds
  good_all hashes [] read has = All-nil (IsGood hashes)
  good_all hashes (d ∷ ds) read has =
      let Reads : Directive → Type 0 = λ d. d.sources ≡ map source_of d.tokens in
      let Has : Directive → Type 0 = λ d. All (Contains hashes) (filter_map hash_of_source d.sources) in
      All-cons (IsGood hashes) d ds
      (subst (All IsReadSource) (sym (All-head Reads d ds read)) (read_all d.tokens), held_by hashes d.sources (All-head Has d ds has))
      (good_all hashes ds (All-tail Reads d ds read) (All-tail Has d ds has))

  module _ (policy : Policy) (hashes : List Hash) (readable : IsReadablePolicy policy) (has : HasHashesOf hashes policy) where
    good : (effective : Name) → IfSome (governor policy effective) (λ g. IsGood hashes g.directive)
    good effective = governs (IsGood hashes) policy (good_all hashes policy.directives readable.read has) effective

    listed_said : (asked : Check) (effective : Name) (kind : Shape) (there : Url) → checked_url asked ≡ Some there → IsValidUrl there → shape_scheme kind ≡ hosted_scheme there
        → IsFixedPath kind there
        → is_true_for hashes asked (listed_sentence policy effective kind)
        ≡ allows_by (governor policy effective) (λ g. list_matches g.directive.sources policy.origin there (after_redirect kind))
    listed_said asked effective kind there at valid scheme single =
        governed hashes asked (governor policy effective) (λ g. list_sentence policy.origin kind g.directive.sources)
        (λ g. list_matches g.directive.sources policy.origin there (after_redirect kind))
        (if_some (λ (g : Governor). IsGood hashes g.directive) _
        (λ g is. list_said hashes asked kind policy.origin there at valid scheme single g.directive.sources is.0)
        (governor policy effective) (good effective))

    said : (asked : Check) → IsValidCheck asked → is_true_for hashes asked (policy_sentence policy (shape_of asked) hashes) ≡ allows policy asked
    said (check.Fetch kind there redirects nonce integrity inserted) valid =
        let asked = check.Fetch kind there redirects nonce integrity inserted in
        let redirected = is_redirected redirects in
        let of_shape = shape.Fetch kind (hosted_scheme there) redirected (tells_parser kind && inserted) in
        governed hashes asked (governor policy (group_directive kind))
        (λ g. fetch_sentence (fetch_rule kind g.name) hashes g.directive.sources (tells_parser kind && inserted) (list_sentence policy.origin of_shape g.directive.sources))
        (λ g. sources_allow (fetch_rule kind g.name) g.directive.sources nonce integrity inserted (list_matches g.directive.sources policy.origin there redirected))
        (if_some (λ (g : Governor). IsGood hashes g.directive) _
        (λ g is. fetch_said hashes asked (fetch_rule kind g.name) g.directive.sources nonce integrity (tells_parser kind && inserted) inserted
        (list_sentence policy.origin of_shape g.directive.sources) (list_matches g.directive.sources policy.origin there redirected)
        refl refl is.0 is.1 (parser_told kind g.name inserted)
        (list_said hashes asked of_shape policy.origin there refl valid.0 refl (unfixed of_shape refl there) g.directive.sources is.0))
        (governor policy (group_directive kind)) (good (group_directive kind)))
    said (check.Inline which nonce digests) valid =
        let asked = check.Inline which nonce digests in
        governed hashes asked (governor policy (inline_directive which)) (λ g. inline_sentence which g.directive.sources)
        (λ g. sources_allow_inline which nonce digests g.directive.sources)
        (if_some (λ (g : Governor). IsGood hashes g.directive) _
        (λ g is. inline_by hashes asked (allows_all_inline which g.directive.sources) which g.directive.sources nonce digests refl refl valid.1 is.0)
        (governor policy (inline_directive which)) (good (inline_directive which)))
    said check.Eval valid = refl
    said check.Wasm valid = refl
    said (check.Base there) valid =
        listed_said (check.Base there) BaseUri (shape.Base (hosted_scheme there)) there refl valid refl (unfixed (shape.Base (hosted_scheme there)) refl there)
    said (check.Form there redirects) valid =
        let of_shape = shape.Form (hosted_scheme there) (is_redirected redirects) in
        listed_said (check.Form there redirects) FormAction of_shape there refl valid.0 refl (unfixed of_shape refl there)
    said (check.Ancestor there) valid =
        let of_shape = shape.Ancestor (hosted_scheme there) in
        listed_said (check.Ancestor there) FrameAncestors of_shape there refl valid.0 refl (fixed of_shape there valid.1)
    said check.OpaqueAncestor valid = refl
    said (check.Capability capability) valid = refl
    said check.WorkerStart valid = refl

    pub policy_said : (asked : Check) (kind : Shape) → IsValidCheck asked → HasShape asked kind → is_true_for hashes asked (policy_sentence policy kind hashes) ≡ allows policy asked
    policy_said asked kind valid shaped = ap (λ k. is_true_for hashes asked (policy_sentence policy k hashes)) (is_only asked kind shaped) ∙ said asked valid
