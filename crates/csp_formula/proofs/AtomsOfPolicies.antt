-- The atoms of what a policy says of a shape are on parts that the shape looks at, valid, and of the vocabulary.
use Rattle.std.proofs.Common.{◌≡◌, sym, ap, refl, subst, ℕ, Bool, true, false, not, ◌==◌, List, [], ◌∷◌, ◌++◌, map, length, Option, Some, None, All, Contains, IfSome, IsTrue, Result, Ok, Err}
use Rattle.std.specs.Prelude.{if◌then◌else◌}
use Rattle.std.specs.List.{list_any, filter_map, cons_option}
use Rattle.std.specs.Option.{option_map, option_and_then}
use Rattle.std.specs.Result.{result_ok}
use Rattle.std.proofs.lemmas.Bool.{and_parts, eqb-true, false≢true}
use Rattle.std.proofs.lemmas.List.Elements.{All-nil, All-cons, All-head, All-tail, All-append, All-map, All-weaker, All-contains, All-contains_itself, All-filter}
use Rattle.base64.specs.Engines.{standard}
use Rattle.base64.specs.GeneralPurpose.{decode_of}
use Rattle.base64.specs.declared.decode.DecodeError.{DecodeError}
use Rattle.csp_model.specs.DecideInline.{allows_all_inline, hash_counts}
use Rattle.csp_model.specs.DecideTokens.{has_keyword, is_hash}
use Rattle.csp_model.specs.Fetch.{fetch_rule}
use Rattle.csp_model.specs.Governing.{Governor, governor}
use Rattle.csp_model.specs.Grammar.{IsSource, is_base64_value}
use Rattle.csp_model.specs.Inline.{is_element_kind}
use Rattle.csp_model.specs.Names.{group_directive, inline_directive}
use Rattle.csp_model.specs.Policies.{IsReadablePolicy}
use Rattle.csp_model.specs.Reading.{source_of}
use Rattle.csp_model.specs.Tokens.{plain_value, size_of, algorithm_of}
use Rattle.csp_model.specs.Validity.{are_bytes}
use Rattle.csp_model.specs.declared.check.CheckPart.{CheckPart}
use Rattle.csp_model.specs.declared.check.CheckPart.TheVariants as part
use Rattle.csp_model.specs.declared.check.Digest.{Digest}
use Rattle.csp_model.specs.declared.check.FetchRule.{FetchRule}
use Rattle.csp_model.specs.declared.check.FetchRule.TheVariants as rule
use Rattle.csp_model.specs.declared.check.Group.{Group}
use Rattle.csp_model.specs.declared.check.InlineKind.{InlineKind}
use Rattle.csp_model.specs.declared.name.Name.{Name}
use Rattle.csp_model.specs.declared.name.Name.TheVariants.{BaseUri, FormAction, FrameAncestors}
use Rattle.csp_model.specs.declared.policy.Directive.{Directive}
use Rattle.csp_model.specs.declared.policy.Policy.{Policy}
use Rattle.csp_model.specs.declared.source.Algorithm.{Algorithm}
use Rattle.csp_model.specs.declared.source.Algorithm.TheVariants.{Sha256, Sha384, Sha512}
use Rattle.csp_model.specs.declared.source.Hash.{Hash}
use Rattle.csp_model.specs.declared.source.Keyword.TheVariants as keyword
use Rattle.csp_model.specs.declared.source.Source.{Source}
use Rattle.csp_model.specs.declared.source.Source.TheVariants as source
use Rattle.csp_model.specs.declared.url.Scheme.{Scheme}
use Rattle.csp_facts.specs.Atoms.{IsValidDigest}
use Rattle.csp_facts.specs.Vocabulary.{hash_of_source}
use Rattle.csp_facts.specs.declared.atom.Atom.{Atom}
use Rattle.csp_facts.specs.declared.atom.Atom.TheVariants.{NonceIs, IntegrityHas, IntegrityOutside, DigestIs}
use Rattle.csp_facts.specs.Shapes.{looks_at, checks_have, is_url_part}
use Rattle.csp_facts.specs.declared.shape.Shape.{Shape}
use Rattle.csp_facts.specs.declared.shape.Shape.TheVariants as shape
use Rattle.csp_formula.specs.Belonging.{IsAtomAt}
use Rattle.csp_formula.specs.Compiled.{nonces_sentence, has_pair, other_hashes, integrity_sentence, digest_with, is_of_size, digest_of, digest_fact, digests_sentence, fetch_sentence, only_where, inline_sentence, said_by, listed_sentence, policy_sentence, HasHashesOf}
use Rattle.csp_formula.specs.Sentences.{Sentence, Known, Fact, Not, any_of}
use Rattle.csp_formula.specs.Sources.{list_sentence}
use Rattle.csp_formula.specs.Values.{atoms_in}
use Rattle.csp_formula.proofs.AtomsOfSources.{HasUrl, ReadsSource, list_within}
use Rattle.csp_formula.proofs.AtomsWithin.{Within, all_within, any_within, one, two_parts, three_parts, if_within, only_within, said_within}
use Rattle.csp_formula.proofs.Governs.{governs}
use Rattle.csp_formula.proofs.ReadParts.{reads}

-- Digests

valid_with : (algorithm : Algorithm) (bytes : List ℕ) → is_of_size (size_of algorithm) bytes ≡ true → IsValidDigest (digest_with algorithm bytes)
valid_with Sha256 bytes sized = let both = and_parts (length bytes == 32) (are_bytes bytes) sized in (eqb-true (length bytes) 32 both.0, both.1)
valid_with Sha384 bytes sized = let both = and_parts (length bytes == 48) (are_bytes bytes) sized in (eqb-true (length bytes) 48 both.0, both.1)
valid_with Sha512 bytes sized = let both = and_parts (length bytes == 64) (are_bytes bytes) sized in (eqb-true (length bytes) 64 both.0, both.1)

valid_by : (algorithm : Algorithm) (bytes : List ℕ) (sized : Bool) → is_of_size (size_of algorithm) bytes ≡ sized
    → IfSome (if sized then Some (digest_with algorithm bytes) else None) IsValidDigest
valid_by algorithm bytes true e = valid_with algorithm bytes e
valid_by algorithm bytes false e = tt

valid_of : (algorithm : Algorithm) (decoded : Result (List ℕ) DecodeError)
    → IfSome (option_and_then (λ bytes. if is_of_size (size_of algorithm) bytes then Some (digest_with algorithm bytes) else None) (result_ok decoded)) IsValidDigest
valid_of algorithm (Ok bytes) = valid_by algorithm bytes (is_of_size (size_of algorithm) bytes) refl
valid_of algorithm (Err e) = tt

module _ (kind : Shape) (hashes : List Hash) where
  abbrev P : Atom → Type 0
  P = IsAtomAt kind hashes

  nonces_within : looks_at kind part.Nonce ≡ true → (sources : List Source) → All ReadsSource sources → Within P (nonces_sentence sources)
  nonces_within looks [] reads = All-nil P
  nonces_within looks (source.Nonce value ∷ sources) reads =
      All-cons P (NonceIs value) (atoms_in (nonces_sentence sources))
      (record { belongs = looks; valid = λ _. All-head ReadsSource (source.Nonce value) sources reads; known = tt })
      (nonces_within looks sources (All-tail ReadsSource (source.Nonce value) sources reads))
  nonces_within looks (other ∷ sources) reads = nonces_within looks sources (All-tail ReadsSource other sources reads)

  module _ (looks : looks_at kind part.Integrity ≡ true) where
    pair_is : (h : Hash) → Contains hashes h → P (IntegrityHas h)
    pair_is h has = record {
      belongs = looks;
      valid = λ base64. All-contains (λ (g : Hash). IsTrue (is_base64_value g.value)) hashes h base64 has;
      known = has;
    }

    pairs_within : (says : Hash → Sentence) → ((h : Hash) → P (IntegrityHas h) → Within P (says h))
        → (hs : List Hash) → All (Contains hashes) hs → All (Within P) (map says hs)
    pairs_within says each hs has =
        All-map (Within P) says hs (All-weaker (Contains hashes) (λ h. Within P (says h)) (λ h is. each h (pair_is h is)) hs has)

    integrity_within : (sources : List Source) → All (Contains hashes) (filter_map hash_of_source sources) → Within P (integrity_sentence hashes sources)
    integrity_within sources has =
        let others = other_hashes hashes sources in
        let own = any_of (map has_pair (filter_map hash_of_source sources)) in
        let denied = map (λ h. Not (has_pair h)) others in
        let among : All (Contains hashes) others =
        All-filter (λ h. not (list_any (is_hash h) sources)) (Contains hashes) hashes (All-contains_itself hashes) in
        all_within P (Not (Fact IntegrityOutside) ∷ (denied ++ own ∷ []))
        (All-cons (Within P) (Not (Fact IntegrityOutside)) (denied ++ own ∷ [])
        (one P IntegrityOutside (record { belongs = looks; valid = λ _. tt; known = tt }))
        (All-append (Within P) denied (own ∷ []) (pairs_within (λ h. Not (has_pair h)) (λ h is. one P (IntegrityHas h) is) others among)
        (All-cons (Within P) own []
        (any_within P (map has_pair (filter_map hash_of_source sources)) (pairs_within has_pair (λ h is. one P (IntegrityHas h) is) (filter_map hash_of_source sources) has))
        (All-nil (Within P)))))

  module _ (looks : (algorithm : Algorithm) → looks_at kind (part.Digest algorithm) ≡ true) where
    digest_by : (d : Option Digest) → IfSome d IsValidDigest → (rest : List Sentence) → Within P (any_of rest)
        → Within P (any_of (cons_option (option_map (λ x. Fact (DigestIs x)) d) rest))
    digest_by None valid rest within = within
    digest_by (Some d) valid rest within =
        All-cons P (DigestIs d) (atoms_in (any_of rest)) (record { belongs = looks (algorithm_of d); valid = λ _. valid; known = tt }) within

    digests_within : (sources : List Source) → Within P (digests_sentence sources)
    digests_within [] = All-nil P
    digests_within (source.Digest hash ∷ sources) =
        digest_by (digest_of hash) (valid_of hash.algorithm (decode_of standard (plain_value hash.value))) (filter_map digest_fact sources) (digests_within sources)
    digests_within (other ∷ sources) = digests_within sources

  fetch_within : looks_at kind part.Nonce ≡ true → looks_at kind part.Integrity ≡ true → (by : FetchRule) (sources : List Source) (parser : Bool) (listed : Sentence)
      → All ReadsSource sources → All (Contains hashes) (filter_map hash_of_source sources) → Within P listed → Within P (fetch_sentence by hashes sources parser listed)
  fetch_within nonce integrity rule.Script sources parser listed reads has within =
      let x = nonces_sentence sources in
      let y = integrity_sentence hashes sources in
      let dynamic = has_keyword keyword.StrictDynamic sources in
      let z = if dynamic then Known (not parser) else listed in
      any_within P (x ∷ y ∷ z ∷ [])
      (three_parts P x y z (nonces_within nonce sources reads) (integrity_within integrity sources has)
      (if_within P dynamic (Known (not parser)) listed (λ _. All-nil P) (λ _. within)))
  fetch_within nonce integrity rule.Style sources parser listed reads has within =
      any_within P (nonces_sentence sources ∷ listed ∷ []) (two_parts P (nonces_sentence sources) listed (nonces_within nonce sources reads) within)
  fetch_within nonce integrity rule.List sources parser listed reads has within = within

  inline_within : looks_at kind part.Nonce ≡ true → ((algorithm : Algorithm) → looks_at kind (part.Digest algorithm) ≡ true)
      → (which : InlineKind) (sources : List Source) → All ReadsSource sources → Within P (inline_sentence which sources)
  inline_within nonce digest which sources reads =
      let x = only_where (is_element_kind which) (nonces_sentence sources) in
      let y = only_where (hash_counts which sources) (digests_sentence sources) in
      if_within P (allows_all_inline which sources) (Known true) (any_of (x ∷ y ∷ [])) (λ _. All-nil P)
      (λ _. any_within P (x ∷ y ∷ []) (two_parts P x y
      (only_within P (is_element_kind which) (nonces_sentence sources) (nonces_within nonce sources reads))
      (only_within P (hash_counts which sources) (digests_sentence sources) (digests_within digest sources))))

-- Shapes whose checks have a URL

fetch_has : (group : Group) (scheme : Option Scheme) (redirected parser : Bool) (p : CheckPart)
    → is_url_part scheme p ≡ true → checks_have (shape.Fetch group scheme redirected parser) p ≡ true
fetch_has group scheme redirected parser part.Nonce e = refl
fetch_has group scheme redirected parser part.Integrity e = refl
fetch_has group scheme redirected parser other e = e

fetch_url : (group : Group) (scheme : Option Scheme) (redirected parser : Bool) → HasUrl (shape.Fetch group scheme redirected parser)
fetch_url group scheme redirected parser = record {
  has = fetch_has group scheme redirected parser;
  compares = λ direct _. ap not direct;
}

form_url : (scheme : Option Scheme) (redirected : Bool) → HasUrl (shape.Form scheme redirected)
form_url scheme redirected = record { has = λ _ e. e; compares = λ direct _. ap not direct }

base_url : (scheme : Option Scheme) → HasUrl (shape.Base scheme)
base_url scheme = record { has = λ _ e. e; compares = λ _ _. refl }

ancestor_url : (scheme : Option Scheme) → HasUrl (shape.Ancestor scheme)
ancestor_url scheme = record { has = λ _ e. e; compares = λ _ other. absurd (false≢true (sym other)) }

-- Policies

if_some : {A : Type 0} (P Q : A → Type 0) → ((a : A) → P a → Q a) → (o : Option A) → IfSome o P → IfSome o Q
if_some P Q each None h = tt
if_some P Q each (Some a) h = each a h

abbrev IsGood : List Hash → Directive → Type 0
IsGood hashes d = All ReadsSource d.sources × All (Contains hashes) (filter_map hash_of_source d.sources)

module _ (tokens_read : (token : List ℕ) → IsSource token (source_of token)) where
  reads_all : (tokens : List (List ℕ)) → All ReadsSource (map source_of tokens)
  reads_all tokens = All-map ReadsSource source_of tokens (all_reads tokens) where
    all_reads : (tokens : List (List ℕ)) → All (λ token. ReadsSource (source_of token)) tokens
    all_reads [] = All-nil (λ token. ReadsSource (source_of token))
    all_reads (token ∷ tokens) =
        All-cons (λ token. ReadsSource (source_of token)) token tokens (reads token (source_of token) (tokens_read token)) (all_reads tokens)

  good_all : (hashes : List Hash) (ds : List Directive) → All (λ (d : Directive). d.sources ≡ map source_of d.tokens) ds
      → All (λ (d : Directive). All (Contains hashes) (filter_map hash_of_source d.sources)) ds → All (IsGood hashes) ds
  good_all hashes [] read has = All-nil (IsGood hashes)
  good_all hashes (d ∷ ds) read has =
      let Reads : Directive → Type 0 = λ d. d.sources ≡ map source_of d.tokens in
      let Has : Directive → Type 0 = λ d. All (Contains hashes) (filter_map hash_of_source d.sources) in
      All-cons (IsGood hashes) d ds
      (subst (All ReadsSource) (sym (All-head Reads d ds read)) (reads_all d.tokens), All-head Has d ds has)
      (good_all hashes ds (All-tail Reads d ds read) (All-tail Has d ds has))

  module _ (policy : Policy) (hashes : List Hash) (readable : IsReadablePolicy policy) (has : HasHashesOf hashes policy) where
    governed : (kind : Shape) (effective : Name) (says : Governor → Sentence)
        → ((g : Governor) → IsGood hashes g.directive → Within (IsAtomAt kind hashes) (says g))
        → Within (IsAtomAt kind hashes) (said_by (governor policy effective) says)
    governed kind effective says each =
        said_within (IsAtomAt kind hashes) (governor policy effective) says
        (if_some (λ (g : Governor). IsGood hashes g.directive) (λ g. Within (IsAtomAt kind hashes) (says g)) each (governor policy effective)
        (governs (IsGood hashes) policy (good_all hashes policy.directives readable.read has) effective))

    listed_within : (kind : Shape) → HasUrl kind → (effective : Name) → Within (IsAtomAt kind hashes) (listed_sentence policy effective kind)
    listed_within kind url effective =
        governed kind effective (λ g. list_sentence policy.origin kind g.directive.sources)
        (λ g good. list_within kind hashes url policy.origin readable.origin g.directive.sources good.0)

    pub policy_within : (kind : Shape) → Within (IsAtomAt kind hashes) (policy_sentence policy kind hashes)
    policy_within (shape.Fetch group scheme redirected parser) =
        let kind = shape.Fetch group scheme redirected parser in
        governed kind (group_directive group)
        (λ g. fetch_sentence (fetch_rule group g.name) hashes g.directive.sources parser (list_sentence policy.origin kind g.directive.sources))
        (λ g good. fetch_within kind hashes refl refl (fetch_rule group g.name) g.directive.sources parser (list_sentence policy.origin kind g.directive.sources)
        good.0 good.1 (list_within kind hashes (fetch_url group scheme redirected parser) policy.origin readable.origin g.directive.sources good.0))
    policy_within (shape.Form scheme redirected) = listed_within (shape.Form scheme redirected) (form_url scheme redirected) FormAction
    policy_within (shape.Base scheme) = listed_within (shape.Base scheme) (base_url scheme) BaseUri
    policy_within (shape.Ancestor scheme) = listed_within (shape.Ancestor scheme) (ancestor_url scheme) FrameAncestors
    policy_within (shape.Inline which) =
        governed (shape.Inline which) (inline_directive which) (λ g. inline_sentence which g.directive.sources)
        (λ g good. inline_within (shape.Inline which) hashes refl (λ _. refl) which g.directive.sources good.0)
    policy_within shape.OpaqueAncestor = All-nil (IsAtomAt shape.OpaqueAncestor hashes)
    policy_within shape.Eval = All-nil (IsAtomAt shape.Eval hashes)
    policy_within shape.Wasm = All-nil (IsAtomAt shape.Wasm hashes)
    policy_within (shape.Capability capability) = All-nil (IsAtomAt (shape.Capability capability) hashes)
    policy_within shape.WorkerStart = All-nil (IsAtomAt shape.WorkerStart hashes)
