-- A reason tells that the policy allows exactly where it does.
use Rattle.std.proofs.Common.{◌≡◌, ℕ, Bool, true, false, not, ◌&&◌, ◌||◌, cond, List, [], ◌∷◌, Option, Some, None, is_none, refl, sym, ◌∙◌, ap, subst}
use Rattle.std.specs.Prelude.{position, is_some}
use Rattle.std.specs.List.{list_any, list_all}
use Rattle.std.proofs.lemmas.Bool.{and_parts, or_left, false≢true}
use Rattle.csp_model.specs.Ascii.{is_nonempty}
use Rattle.csp_model.specs.DecideFetch.{sources_allow}
use Rattle.csp_model.specs.DecideInline.{allows_all_inline, hash_counts, sources_allow_inline}
use Rattle.csp_model.specs.DecideMatching.{matches, list_matches}
use Rattle.csp_model.specs.DecideNavigation.{grants}
use Rattle.csp_model.specs.DecideTokens.{is_keyword, has_keyword, is_nonce, nonce_matches, is_hash, integrity_matches, is_hash_of, digests_match}
use Rattle.csp_model.specs.DecideVerdict.{allows}
use Rattle.csp_model.specs.Fetch.{fetch_rule, is_redirected}
use Rattle.csp_model.specs.Governing.{Governor}
use Rattle.csp_model.specs.Inline.{is_element_kind, is_script_kind, is_nonce_or_hash}
use Rattle.csp_model.specs.Reading.{first_of}
use Rattle.csp_model.specs.declared.check.Capability.TheVariants as capability
use Rattle.csp_model.specs.declared.check.Check.{Check}
use Rattle.csp_model.specs.declared.check.Check.TheVariants as check
use Rattle.csp_model.specs.declared.check.Digests.{Digests}
use Rattle.csp_model.specs.declared.check.FetchRule.{FetchRule}
use Rattle.csp_model.specs.declared.check.FetchRule.TheVariants as fetch
use Rattle.csp_model.specs.declared.check.InlineKind.{InlineKind}
use Rattle.csp_model.specs.declared.policy.Policy.{Policy}
use Rattle.csp_model.specs.declared.source.Hash.{Hash}
use Rattle.csp_model.specs.declared.source.Keyword.{Keyword}
use Rattle.csp_model.specs.declared.source.Keyword.TheVariants as keyword
use Rattle.csp_model.specs.declared.source.Source.{Source}
use Rattle.csp_model.specs.declared.source.Source.TheVariants as source
use Rattle.csp_model.specs.declared.url.Origin.{Origin}
use Rattle.csp_model.specs.declared.url.Url.{Url}
use Rattle.csp_why.specs.Allowances.{only_where, source_token, keyword_token, nonce_token, is_some_hash, integrity_token, digest_token, token_grants, grant_token, is_for_worker, worker_token, by, fetch_allowances, inline_allowances, allowances}
use Rattle.csp_why.specs.Displacement.{is_nonce_source, is_hash_source, displaces_sources, displaces_unsafe_inline, displacement}
use Rattle.csp_why.specs.Near.{near_of}
use Rattle.csp_why.specs.Reasons.{acting, governed_reason, reason_by, reason, is_allowing}
use Rattle.csp_why.specs.declared.reason.Allowance.{Allowance}
use Rattle.csp_why.specs.declared.reason.Near.{Near}
use Rattle.csp_why.specs.declared.reason.Reason.TheVariants.{Allows, Blocks}
use Rattle.csp_why.specs.declared.reason.Rule.{Rule}
use Rattle.csp_why.specs.declared.reason.Rule.TheVariants as rule
use Rattle.csp_why.specs.declared.reason.Obstacle.{Obstacle}
use Rattle.csp_why.specs.declared.reason.Obstacle.TheVariants as word
use Rattle.csp_why.proofs.Finding.{any_more, first_some, position_any}
use Rattle.csp_why.proofs.Governed.{test, governed, not_governed}

-- The parts

some_by : (which : Rule) (o : Option ℕ) → is_some (by which o) ≡ is_some o
some_by which None = refl
some_by which (Some i) = refl

some_where : (b : Bool) (o : Option ℕ) → is_some (only_where b o) ≡ (b && is_some o)
some_where true o = refl
some_where false o = refl

by_where : (which : Rule) (b : Bool) (o : Option ℕ) (c : Bool) → is_some o ≡ c → is_some (by which (only_where b o)) ≡ (b && c)
by_where which b o c e = some_by which (only_where b o) ∙ (some_where b o ∙ ap (λ x. b && x) e)

-- a rule of several, and the last one
next : (o : Option Allowance) (os : List (Option Allowance)) (a b : Bool) → is_some o ≡ a → is_some (first_of os) ≡ b
    → is_some (first_of (o ∷ os)) ≡ (a || b)
next o os a b first rest = first_some o os ∙ (ap (λ x. x || is_some (first_of os)) first ∙ ap (λ x. a || x) rest)

or_none : (a : Bool) → (a || false) ≡ a
or_none true = refl
or_none false = refl

last : (o : Option Allowance) (a : Bool) → is_some o ≡ a → is_some (first_of (o ∷ [])) ≡ a
last o a only = next o [] a false only refl ∙ or_none a

absorb : (a b : Bool) → (a ≡ true → b ≡ true) → (a && b) ≡ a
absorb true b follows = follows refl
absorb false b follows = refl

nonce_some : (which : Rule) (nonce : List ℕ) (sources : List Source)
    → is_some (by which (nonce_token nonce sources)) ≡ nonce_matches nonce sources
nonce_some which nonce sources =
    by_where which (is_nonempty nonce) (position (is_nonce nonce) sources) (list_any (is_nonce nonce) sources) (position_any (is_nonce nonce) sources)

keyword_some : (which : Rule) (word : Keyword) (sources : List Source)
    → is_some (by which (keyword_token word sources)) ≡ has_keyword word sources
keyword_some which word sources = some_by which (keyword_token word sources) ∙ position_any (is_keyword word) sources

source_some : (self : Origin) (there : Url) (redirected : Bool) (sources : List Source)
    → is_some (source_token self there redirected sources) ≡ list_matches sources self there redirected
source_some self there redirected sources = position_any (λ (s : Source). matches s self there redirected) sources

listed_some : (self : Origin) (there : Url) (redirected : Bool) (sources : List Source)
    → is_some (by rule.Source (source_token self there redirected sources)) ≡ list_matches sources self there redirected
listed_some self there redirected sources =
    some_by rule.Source (source_token self there redirected sources) ∙ source_some self there redirected sources

has_one : (integrity : List Hash) (sources : List Source)
    → integrity_matches integrity sources ≡ true → list_any (is_some_hash integrity) sources ≡ true
has_one [] sources match = absurd (false≢true match)
has_one (h ∷ hs) sources match =
    let all = and_parts (is_nonempty (h ∷ hs)) (list_all (λ (x : Hash). list_any (is_hash x) sources) (h ∷ hs)) match in
    let one = and_parts (list_any (is_hash h) sources) (list_all (λ (x : Hash). list_any (is_hash x) sources) hs) all.1 in
    any_more (is_hash h) (is_some_hash (h ∷ hs)) sources
    (λ s is. or_left (is_hash h s) (list_any (λ (x : Hash). is_hash x s) hs) is) one.0

integrity_some : (integrity : List Hash) (sources : List Source)
    → is_some (by rule.Integrity (integrity_token integrity sources)) ≡ integrity_matches integrity sources
integrity_some integrity sources =
    by_where rule.Integrity (integrity_matches integrity sources) (position (is_some_hash integrity) sources)
    (list_any (is_some_hash integrity) sources) (position_any (is_some_hash integrity) sources)
    ∙ absorb (integrity_matches integrity sources) (list_any (is_some_hash integrity) sources) (has_one integrity sources)

-- Fetches

dynamic_or_listed : (dynamic parser listed : Bool)
    → ((not parser && dynamic) || (is_none (cond dynamic (Some word.StrictDynamic) None) && listed))
    ≡ ((dynamic && not parser) || (not dynamic && listed))
dynamic_or_listed true true listed = refl
dynamic_or_listed true false listed = refl
dynamic_or_listed false true listed = refl
dynamic_or_listed false false listed = refl

fetch_decided : (which : FetchRule) (sources : List Source) (nonce : List ℕ) (integrity : List Hash) (parser_inserted : Bool)
    (self : Origin) (there : Url) (redirected : Bool)
    → is_some (first_of (fetch_allowances which sources nonce integrity parser_inserted
    (only_where (is_none (displaces_sources which sources)) (source_token self there redirected sources))))
    ≡ sources_allow which sources nonce integrity parser_inserted (list_matches sources self there redirected)
fetch_decided fetch.Script sources nonce integrity parser_inserted self there redirected =
    let dynamic = has_keyword keyword.StrictDynamic sources in
    let listed = list_matches sources self there redirected in
    let counts = is_none (displaces_sources fetch.Script sources) in
    let found = source_token self there redirected sources in
    next _ _ (nonce_matches nonce sources) _ (nonce_some rule.Nonce nonce sources)
    (next _ _ (integrity_matches integrity sources) _ (integrity_some integrity sources)
    (next _ _ (not parser_inserted && dynamic) (counts && listed)
    (by_where rule.StrictDynamic (not parser_inserted) (keyword_token keyword.StrictDynamic sources) dynamic
    (position_any (is_keyword keyword.StrictDynamic) sources))
    (last (by rule.Source (only_where counts found)) (counts && listed)
    (by_where rule.Source counts found listed (source_some self there redirected sources)))
    ∙ dynamic_or_listed dynamic parser_inserted listed))
fetch_decided fetch.Style sources nonce integrity parser_inserted self there redirected =
    next _ _ (nonce_matches nonce sources) (list_matches sources self there redirected) (nonce_some rule.Nonce nonce sources)
    (last (by rule.Source (source_token self there redirected sources)) (list_matches sources self there redirected)
    (listed_some self there redirected sources))
fetch_decided fetch.List sources nonce integrity parser_inserted self there redirected =
    last (by rule.Source (source_token self there redirected sources)) (list_matches sources self there redirected)
    (listed_some self there redirected sources)

-- Inline code and style

either_kind : (s : Source) → is_nonce_or_hash s ≡ (is_nonce_source s || is_hash_source s)
either_kind source.Star = refl
either_kind (source.SchemeOnly scheme) = refl
either_kind (source.Hosted scheme host port path) = refl
either_kind (source.Word word) = refl
either_kind (source.Nonce value) = refl
either_kind (source.Digest hash) = refl
either_kind (source.Other token) = refl

regroup : (a b c d : Bool) → ((a || b) || (c || d)) ≡ ((a || c) || (b || d))
regroup true b c d = refl
regroup false true true d = refl
regroup false true false d = refl
regroup false false c d = refl

pub nonces_and_hashes : (sources : List Source)
    → list_any is_nonce_or_hash sources ≡ (list_any is_nonce_source sources || list_any is_hash_source sources)
nonces_and_hashes [] = refl
nonces_and_hashes (s ∷ sources) =
    ap (λ b. b || list_any is_nonce_or_hash sources) (either_kind s)
    ∙ (ap (λ b. (is_nonce_source s || is_hash_source s) || b) (nonces_and_hashes sources)
    ∙ regroup (is_nonce_source s) (is_hash_source s) (list_any is_nonce_source sources) (list_any is_hash_source sources))

acts : (nonces hashes code dynamic unsafe : Bool)
    → (is_none (cond nonces (Some word.Nonce) (cond hashes (Some word.Hash)
    (cond (code && dynamic) (Some word.StrictDynamic) None))) && unsafe)
    ≡ (unsafe && (not (nonces || hashes) && (not code || not dynamic)))
acts true hashes code dynamic true = refl
acts true hashes code dynamic false = refl
acts false true code dynamic true = refl
acts false true code dynamic false = refl
acts false false true true true = refl
acts false false true true false = refl
acts false false true false true = refl
acts false false true false false = refl
acts false false false dynamic true = refl
acts false false false dynamic false = refl

pub unsafe_inline_acts : (kind : InlineKind) (sources : List Source)
    → (is_none (displaces_unsafe_inline (is_script_kind kind) sources) && has_keyword keyword.UnsafeInline sources)
    ≡ allows_all_inline kind sources
unsafe_inline_acts kind sources =
    let nonces = list_any is_nonce_source sources in
    let hashes = list_any is_hash_source sources in
    let code = is_script_kind kind in
    let dynamic = has_keyword keyword.StrictDynamic sources in
    let unsafe = has_keyword keyword.UnsafeInline sources in
    acts nonces hashes code dynamic unsafe
    ∙ ap (λ b. unsafe && (not b && (not code || not dynamic))) (sym (nonces_and_hashes sources))

swapped : (a b : Bool) → (a && b) ≡ (b && a)
swapped true true = refl
swapped true false = refl
swapped false true = refl
swapped false false = refl

inline_decided : (kind : InlineKind) (nonce : List ℕ) (digests : Digests) (sources : List Source)
    → is_some (first_of (inline_allowances (is_none (displaces_unsafe_inline (is_script_kind kind) sources)) kind nonce digests sources))
    ≡ sources_allow_inline kind nonce digests sources
inline_decided kind nonce digests sources =
    let counts = is_none (displaces_unsafe_inline (is_script_kind kind) sources) in
    next _ _ (allows_all_inline kind sources) _
    (by_where rule.UnsafeInline counts (keyword_token keyword.UnsafeInline sources) (has_keyword keyword.UnsafeInline sources)
    (position_any (is_keyword keyword.UnsafeInline) sources) ∙ unsafe_inline_acts kind sources)
    (next _ _ (is_element_kind kind && nonce_matches nonce sources) _
    (by_where rule.Nonce (is_element_kind kind) (nonce_token nonce sources) (nonce_matches nonce sources)
    (some_where (is_nonempty nonce) (position (is_nonce nonce) sources)
    ∙ ap (λ b. is_nonempty nonce && b) (position_any (is_nonce nonce) sources)))
    (last (by rule.Hash (only_where (hash_counts kind sources) (digest_token digests sources)))
    (digests_match digests sources && hash_counts kind sources)
    (by_where rule.Hash (hash_counts kind sources) (digest_token digests sources) (digests_match digests sources)
    (position_any (is_hash_of digests) sources)
    ∙ swapped (hash_counts kind sources) (digests_match digests sources))))

-- Sandboxes

worker_some : (tokens : List (List ℕ))
    → is_some (by rule.Capability (worker_token tokens)) ≡ (grants tokens capability.Scripts && grants tokens capability.SameOrigin)
worker_some tokens =
    let both = grants tokens capability.Scripts && grants tokens capability.SameOrigin in
    by_where rule.Capability both (position is_for_worker tokens) (list_any is_for_worker tokens) (position_any is_for_worker tokens)
    ∙ absorb both (list_any is_for_worker tokens) (λ match.
    any_more (token_grants capability.Scripts) is_for_worker tokens
    (λ t is. or_left (token_grants capability.Scripts t) (token_grants capability.SameOrigin t) is)
    (and_parts (grants tokens capability.Scripts) (grants tokens capability.SameOrigin) match).0)

-- Each check

pub test_decided : (self : Origin) (asked : Check) (g : Governor)
    → is_some (first_of (allowances self asked (is_none (displacement asked g.name g.directive.sources)) g)) ≡ test self asked g
test_decided self (check.Fetch group there redirects nonce integrity parser_inserted) g =
    fetch_decided (fetch_rule group g.name) g.directive.sources nonce integrity parser_inserted self there (is_redirected redirects)
test_decided self (check.Inline kind nonce digests) g = inline_decided kind nonce digests g.directive.sources
test_decided self check.Eval g =
    last (by rule.UnsafeEval (keyword_token keyword.UnsafeEval g.directive.sources)) _
    (keyword_some rule.UnsafeEval keyword.UnsafeEval g.directive.sources)
test_decided self check.Wasm g =
    next _ _ (has_keyword keyword.UnsafeEval g.directive.sources) _
    (keyword_some rule.UnsafeEval keyword.UnsafeEval g.directive.sources)
    (last (by rule.WasmUnsafeEval (keyword_token keyword.WasmUnsafeEval g.directive.sources)) _
    (keyword_some rule.WasmUnsafeEval keyword.WasmUnsafeEval g.directive.sources))
test_decided self (check.Base there) g = last _ _ (listed_some self there false g.directive.sources)
test_decided self (check.Form there redirects) g = last _ _ (listed_some self there (is_redirected redirects) g.directive.sources)
test_decided self (check.Ancestor there) g = last _ _ (listed_some self there false g.directive.sources)
test_decided self check.OpaqueAncestor g = refl
test_decided self (check.Capability asked) g =
    last (by rule.Capability (grant_token asked g.directive.tokens)) (grants g.directive.tokens asked)
    (some_by rule.Capability (grant_token asked g.directive.tokens) ∙ position_any (token_grants asked) g.directive.tokens)
test_decided self check.WorkerStart g = last _ _ (worker_some g.directive.tokens)

is_allowing_where : (policy : Policy) (asked : Check) (displaced : Option Obstacle) (g : Governor) (o : Option Allowance)
    → is_allowing (governed_reason policy asked displaced g o) ≡ is_some o
is_allowing_where policy asked displaced g None = refl
is_allowing_where policy asked displaced g (Some a) = refl

decided_by : (p : Policy) (asked : Check) (o : Option Governor) → acting p asked ≡ o → is_allowing (reason_by p asked o) ≡ allows p asked
decided_by p asked None acts = sym (not_governed p asked acts)
decided_by p asked (Some g) acts =
    let displaced = displacement asked g.name g.directive.sources in
    is_allowing_where p asked displaced g (first_of (allowances p.origin asked (is_none displaced) g))
    ∙ (test_decided p.origin asked g ∙ sym (governed p asked g acts))

pub reason_decided : (p : Policy) (asked : Check) → is_allowing (reason p asked) ≡ allows p asked
reason_decided p asked = decided_by p asked (acting p asked) refl

-- a reason, by what governs and the first rule that allows
pub reason_at : (p : Policy) (asked : Check) (g : Governor) (o : Option Allowance) → acting p asked ≡ Some g
    → first_of (allowances p.origin asked (is_none (displacement asked g.name g.directive.sources)) g) ≡ o
    → reason p asked ≡ governed_reason p asked (displacement asked g.name g.directive.sources) g o
reason_at p asked g o acts first =
    ap (reason_by p asked) acts ∙ ap (governed_reason p asked (displacement asked g.name g.directive.sources) g) first

-- what is told of what was computed

counts_where : (counts displaced : Bool) → displaced ≡ not counts → counts ≡ not displaced
counts_where true displaced e = sym (ap not e)
counts_where false displaced e = sym (ap not e)

first_by : (p : Policy) (asked : Check) (g : Governor) (displaced : Option Obstacle) (counts : Bool) (found o : Option Allowance)
    → displaced ≡ displacement asked g.name g.directive.sources → is_some displaced ≡ not counts
    → found ≡ first_of (allowances p.origin asked counts g) → found ≡ o
    → first_of (allowances p.origin asked (is_none (displacement asked g.name g.directive.sources)) g) ≡ o
first_by p asked g displaced counts found o is_displaced counted allowed is =
    subst (λ (x : Option Obstacle). first_of (allowances p.origin asked (is_none x) g) ≡ o) is_displaced
    (subst (λ (b : Bool). first_of (allowances p.origin asked b g) ≡ o) (counts_where counts (is_some displaced) counted) (sym allowed ∙ is))

pub told_allows : (p : Policy) (asked : Check) (g : Governor) (displaced : Option Obstacle) (counts : Bool) (found : Option Allowance) (a : Allowance)
    → acting p asked ≡ Some g → displaced ≡ displacement asked g.name g.directive.sources → is_some displaced ≡ not counts
    → found ≡ first_of (allowances p.origin asked counts g) → found ≡ Some a → Allows g.name a ≡ reason p asked
told_allows p asked g displaced counts found a acts is_displaced counted allowed is =
    sym (reason_at p asked g (Some a) acts (first_by p asked g displaced counts found (Some a) is_displaced counted allowed is))

pub told_blocks : (p : Policy) (asked : Check) (g : Governor) (displaced : Option Obstacle) (counts : Bool) (found : Option Allowance) (near : List Near)
    → acting p asked ≡ Some g → displaced ≡ displacement asked g.name g.directive.sources → is_some displaced ≡ not counts
    → found ≡ first_of (allowances p.origin asked counts g) → found ≡ None
    → near ≡ near_of p.origin asked displaced g → Blocks g.name near ≡ reason p asked
told_blocks p asked g displaced counts found near acts is_displaced counted allowed is these =
    ap (λ (l : List Near). Blocks g.name l)
    (subst (λ (x : Option Obstacle). near ≡ near_of p.origin asked x g) is_displaced these)
    ∙ sym (reason_at p asked g None acts (first_by p asked g displaced counts found None is_displaced counted allowed is))
