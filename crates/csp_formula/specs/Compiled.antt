-- What a policy says of the checks of a shape.
use Rattle.std.specs.Prelude.{ℕ, Bool, true, false, not, ◌==◌, ◌&&◌, if◌then◌else◌, List, [], ◌∷◌, ◌++◌, map, filter, length, Option, Some, None, All, Contains}
use Rattle.std.specs.List.{filter_map, list_any}
use Rattle.std.specs.Option.{option_and_then, option_map}
use Rattle.std.specs.Result.{result_ok}
use Rattle.base64.specs.Engines.{standard}
use Rattle.base64.specs.GeneralPurpose.{decode_of}
use Rattle.csp_model.specs.DecideInline.{allows_all_inline, hash_counts, eval_allows, wasm_allows}
use Rattle.csp_model.specs.DecideNavigation.{opaque_ancestor_allows, capability_allows, worker_start_allows}
use Rattle.csp_model.specs.DecideTokens.{has_keyword, is_hash}
use Rattle.csp_model.specs.Fetch.{fetch_rule}
use Rattle.csp_model.specs.Governing.{Governor, governor}
use Rattle.csp_model.specs.Inline.{is_element_kind}
use Rattle.csp_model.specs.Names.{group_directive, inline_directive}
use Rattle.csp_model.specs.Tokens.{plain_value, size_of}
use Rattle.csp_model.specs.Validity.{are_bytes}
use Rattle.csp_model.specs.declared.check.Digest.{Digest}
use Rattle.csp_model.specs.declared.check.Digest.TheVariants as digest
use Rattle.csp_model.specs.declared.check.FetchRule.{FetchRule}
use Rattle.csp_model.specs.declared.check.FetchRule.TheVariants as rule
use Rattle.csp_model.specs.declared.check.Group.{Group}
use Rattle.csp_model.specs.declared.check.InlineKind.{InlineKind}
use Rattle.csp_model.specs.declared.name.Name.{Name}
use Rattle.csp_model.specs.declared.name.Name.TheVariants.{BaseUri, FormAction, FrameAncestors}
use Rattle.csp_model.specs.declared.policy.Directive.{Directive}
use Rattle.csp_model.specs.declared.policy.Policy.{Policy}
use Rattle.csp_model.specs.declared.source.Algorithm.{Algorithm}
use Rattle.csp_model.specs.declared.source.Algorithm.TheVariants.{Sha256, Sha384, Sha512}
use Rattle.csp_model.specs.declared.source.Hash.{Hash}
use Rattle.csp_model.specs.declared.source.Keyword.TheVariants as keyword
use Rattle.csp_model.specs.declared.source.Source.{Source}
use Rattle.csp_model.specs.declared.source.Source.TheVariants as source
use Rattle.csp_facts.specs.Vocabulary.{hash_of_source}
use Rattle.csp_facts.specs.declared.atom.Atom.TheVariants.{NonceIs, IntegrityHas, IntegrityOutside, DigestIs}
use Rattle.csp_facts.specs.declared.shape.Shape.{Shape}
use Rattle.csp_facts.specs.declared.shape.Shape.TheVariants as shape
use Rattle.csp_formula.specs.Sentences.{Sentence, Known, Fact, Not, all_of, any_of}
use Rattle.csp_formula.specs.Sources.{list_sentence}

-- Nonces, integrity metadata and digests

abbrev pub nonce_fact : Source → Option Sentence
nonce_fact (source.Nonce value) = Some (Fact (NonceIs value))
nonce_fact other = None

-- the nonce is that of a nonce-source
abbrev pub nonces_sentence : List Source → Sentence
nonces_sentence sources = any_of (filter_map nonce_fact sources)

abbrev pub has_pair : Hash → Sentence
has_pair hash = Fact (IntegrityHas hash)

-- the metadata has a pair that is a hash-source
abbrev pub pairs_sentence : List Source → Sentence
pairs_sentence sources = any_of (map has_pair (filter_map hash_of_source sources))

-- the hashes of the vocabulary that aren't hash-sources of the list
abbrev pub other_hashes : List Hash → List Source → List Hash
other_hashes hashes sources = filter (λ h. not (list_any (is_hash h) sources)) hashes

-- the integrity metadata has a pair that is a hash-source, and no other: none outside the vocabulary, and
-- none of its others. These denials come first: a search that decides atoms in this order branches less.
abbrev pub integrity_sentence : List Hash → List Source → Sentence
integrity_sentence hashes sources = all_of (Not (Fact IntegrityOutside)
    ∷ (map (λ h. Not (has_pair h)) (other_hashes hashes sources)
    ++ pairs_sentence sources ∷ []))

abbrev pub digest_with : Algorithm → List ℕ → Digest
digest_with Sha256 bytes = digest.Sha256 bytes
digest_with Sha384 bytes = digest.Sha384 bytes
digest_with Sha512 bytes = digest.Sha512 bytes

-- so many bytes
abbrev pub is_of_size : ℕ → List ℕ → Bool
is_of_size size text = (length text == size) && are_bytes text

-- the digest of the hash's algorithm whose standard base64 the hash's value is
abbrev pub digest_of : Hash → Option Digest
digest_of hash =
    option_and_then (λ bytes. if is_of_size (size_of hash.algorithm) bytes
    then Some (digest_with hash.algorithm bytes) else None)
    (result_ok (decode_of standard (plain_value hash.value)))

abbrev pub digest_fact : Source → Option Sentence
digest_fact (source.Digest hash) = option_map (λ d. Fact (DigestIs d)) (digest_of hash)
digest_fact other = None

-- the text has a digest that a hash-source stands for
abbrev pub digests_sentence : List Source → Sentence
digests_sentence sources = any_of (filter_map digest_fact sources)

-- Governing lists

-- what the list says, or 'strict-dynamic' in its place
abbrev pub dynamic_sentence : List Source → Bool → Sentence → Sentence
dynamic_sentence sources parser_inserted listed =
    if has_keyword keyword.StrictDynamic sources then Known (not parser_inserted) else listed

-- a fetch by its rule; the script check has three parts
abbrev pub fetch_sentence : FetchRule → List Hash → List Source → Bool → Sentence → Sentence
fetch_sentence rule.Script hashes sources parser_inserted listed = any_of (nonces_sentence sources
    ∷ integrity_sentence hashes sources ∷ dynamic_sentence sources parser_inserted listed ∷ [])
fetch_sentence rule.Style hashes sources parser_inserted listed =
    any_of (nonces_sentence sources ∷ listed ∷ [])
fetch_sentence rule.List hashes sources parser_inserted listed = listed

abbrev pub only_where : Bool → Sentence → Sentence
only_where test says = if test then says else Known false

-- inline code or style: a nonce counts for elements, and a hash for elements or with 'unsafe-hashes'
abbrev pub inline_sentence : InlineKind → List Source → Sentence
inline_sentence which sources =
    if allows_all_inline which sources then Known true
    else any_of (only_where (is_element_kind which) (nonces_sentence sources)
    ∷ only_where (hash_counts which sources) (digests_sentence sources) ∷ [])

-- Policies

-- what governs says this; where nothing does, all is allowed
abbrev pub said_by : Option Governor → (Governor → Sentence) → Sentence
said_by None says = Known true
said_by (Some g) says = says g

-- the list that governs matches
abbrev pub listed_sentence : Policy → Name → Shape → Sentence
listed_sentence policy effective kind =
    said_by (governor policy effective) (λ g. list_sentence policy.origin kind g.directive.sources)

-- fetches of a group
abbrev pub group_sentence : Policy → Group → Shape → Bool → List Hash → Sentence
group_sentence policy group kind parser_inserted hashes =
    said_by (governor policy (group_directive group)) (λ g.
    fetch_sentence (fetch_rule group g.name) hashes g.directive.sources parser_inserted
    (list_sentence policy.origin kind g.directive.sources))

-- inline code or style of a kind
abbrev pub kind_sentence : Policy → InlineKind → Sentence
kind_sentence policy which =
    said_by (governor policy (inline_directive which)) (λ g. inline_sentence which g.directive.sources)

-- a policy allows the checks of a shape, where the vocabulary has these hashes
abbrev pub policy_sentence : Policy → Shape → List Hash → Sentence
policy_sentence policy (shape.Fetch group scheme redirected parser_inserted) hashes =
    group_sentence policy group (shape.Fetch group scheme redirected parser_inserted) parser_inserted hashes
policy_sentence policy (shape.Form scheme redirected) hashes =
    listed_sentence policy FormAction (shape.Form scheme redirected)
policy_sentence policy (shape.Base scheme) hashes = listed_sentence policy BaseUri (shape.Base scheme)
policy_sentence policy (shape.Ancestor scheme) hashes =
    listed_sentence policy FrameAncestors (shape.Ancestor scheme)
policy_sentence policy shape.OpaqueAncestor hashes = Known (opaque_ancestor_allows policy)
policy_sentence policy (shape.Inline which) hashes = kind_sentence policy which
policy_sentence policy shape.Eval hashes = Known (eval_allows policy)
policy_sentence policy shape.Wasm hashes = Known (wasm_allows policy)
policy_sentence policy (shape.Capability capability) hashes = Known (capability_allows policy capability)
policy_sentence policy shape.WorkerStart hashes = Known (worker_start_allows policy)

-- the vocabulary has each hash-source of the policy
abbrev pub HasHashesOf : List Hash → Policy → Type 0
HasHashesOf hashes policy =
    All (λ (d : Directive). All (Contains hashes) (filter_map hash_of_source d.sources)) policy.directives
