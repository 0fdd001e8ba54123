-- The rules by which a directive that governs can allow a check, each with the first token that it allows
-- by. They stand in the order of the standard's own steps (Content Security Policy Level 3): for a script
-- those of section 6.7.1.1, for a style those of section 6.1, and for inline code and style those of
-- section 6.7.3.3.
use Rattle.std.specs.Prelude.{ℕ, Bool, false, not, ◌&&◌, ◌||◌, if◌then◌else◌, List, [], ◌∷◌, Option, None, position}
use Rattle.std.specs.List.{list_any}
use Rattle.std.specs.Option.{option_map}
use Rattle.std.specs.Str.{bytes_eq}
use Rattle.csp_model.specs.Ascii.{lower, is_nonempty}
use Rattle.csp_model.specs.DecideInline.{hash_counts}
use Rattle.csp_model.specs.DecideMatching.{matches}
use Rattle.csp_model.specs.DecideNavigation.{grants}
use Rattle.csp_model.specs.DecideTokens.{is_keyword, is_nonce, is_hash, integrity_matches, is_hash_of}
use Rattle.csp_model.specs.Fetch.{fetch_rule, is_redirected}
use Rattle.csp_model.specs.Governing.{Governor}
use Rattle.csp_model.specs.Inline.{is_element_kind}
use Rattle.csp_model.specs.Navigation.{capability_tokens}
use Rattle.csp_model.specs.declared.check.Capability.{Capability}
use Rattle.csp_model.specs.declared.check.Capability.TheVariants as capability
use Rattle.csp_model.specs.declared.check.Check.{Check}
use Rattle.csp_model.specs.declared.check.Check.TheVariants as check
use Rattle.csp_model.specs.declared.check.Digests.{Digests}
use Rattle.csp_model.specs.declared.check.FetchRule.{FetchRule}
use Rattle.csp_model.specs.declared.check.FetchRule.TheVariants as fetch
use Rattle.csp_model.specs.declared.check.InlineKind.{InlineKind}
use Rattle.csp_model.specs.declared.source.Hash.{Hash}
use Rattle.csp_model.specs.declared.source.Keyword.{Keyword}
use Rattle.csp_model.specs.declared.source.Keyword.TheVariants as keyword
use Rattle.csp_model.specs.declared.source.Source.{Source}
use Rattle.csp_model.specs.declared.url.Origin.{Origin}
use Rattle.csp_model.specs.declared.url.Url.{Url}
use Rattle.csp_why.specs.declared.reason.Allowance.{Allowance}
use Rattle.csp_why.specs.declared.reason.Rule.{Rule}
use Rattle.csp_why.specs.declared.reason.Rule.TheVariants as rule

-- The first token of each kind

abbrev pub only_where : Bool → Option ℕ → Option ℕ
only_where condition token = if condition then token else None

abbrev pub source_token : Origin → Url → Bool → List Source → Option ℕ
source_token self there redirected sources = position (λ s. matches s self there redirected) sources

abbrev pub keyword_token : Keyword → List Source → Option ℕ
keyword_token word sources = position (is_keyword word) sources

-- an empty nonce matches nothing
abbrev pub nonce_token : List ℕ → List Source → Option ℕ
nonce_token nonce sources = only_where (is_nonempty nonce) (position (is_nonce nonce) sources)

abbrev pub is_some_hash : List Hash → Source → Bool
is_some_hash integrity s = list_any (λ h. is_hash h s) integrity

-- where all of the metadata is in the list, the first hash-source that has a part of it
abbrev pub integrity_token : List Hash → List Source → Option ℕ
integrity_token integrity sources =
    only_where (integrity_matches integrity sources) (position (is_some_hash integrity) sources)

abbrev pub digest_token : Digests → List Source → Option ℕ
digest_token digests sources = position (is_hash_of digests) sources

abbrev pub token_grants : Capability → List ℕ → Bool
token_grants capability token = list_any (λ t. bytes_eq t (lower token)) (capability_tokens capability)

abbrev pub grant_token : Capability → List (List ℕ) → Option ℕ
grant_token capability tokens = position (token_grants capability) tokens

-- a worker needs scripts and the document's origin
abbrev pub is_for_worker : List ℕ → Bool
is_for_worker token = token_grants capability.Scripts token || token_grants capability.SameOrigin token

abbrev pub worker_token : List (List ℕ) → Option ℕ
worker_token tokens =
    only_where (grants tokens capability.Scripts && grants tokens capability.SameOrigin)
    (position is_for_worker tokens)

-- The rules, in order

abbrev pub by : Rule → Option ℕ → Option Allowance
by which token = option_map (λ i. record { rule = which; token = i }) token

abbrev pub fetch_allowances :
    FetchRule → List Source → List ℕ → List Hash → Bool → Option ℕ → List (Option Allowance)
fetch_allowances fetch.Script sources nonce integrity parser_inserted listed =
    by rule.Nonce (nonce_token nonce sources)
    ∷ by rule.Integrity (integrity_token integrity sources)
    ∷ by rule.StrictDynamic (only_where (not parser_inserted) (keyword_token keyword.StrictDynamic sources))
    ∷ by rule.Source listed
    ∷ []
fetch_allowances fetch.Style sources nonce integrity parser_inserted listed =
    by rule.Nonce (nonce_token nonce sources) ∷ by rule.Source listed ∷ []
fetch_allowances fetch.List sources nonce integrity parser_inserted listed = by rule.Source listed ∷ []

abbrev pub inline_allowances : Bool → InlineKind → List ℕ → Digests → List Source → List (Option Allowance)
inline_allowances counts kind nonce digests sources =
    by rule.UnsafeInline (only_where counts (keyword_token keyword.UnsafeInline sources))
    ∷ by rule.Nonce (only_where (is_element_kind kind) (nonce_token nonce sources))
    ∷ by rule.Hash (only_where (hash_counts kind sources) (digest_token digests sources))
    ∷ []

-- What governs allows the check by the first of these that is there. `counts` says that nothing takes the
-- place of the source expressions, or of 'unsafe-inline'.
abbrev pub allowances : Origin → Check → Bool → Governor → List (Option Allowance)
allowances self (check.Fetch group there redirects nonce integrity parser_inserted) counts g =
    fetch_allowances (fetch_rule group g.name) g.directive.sources nonce integrity parser_inserted
    (only_where counts (source_token self there (is_redirected redirects) g.directive.sources))
allowances self (check.Inline kind nonce digests) counts g =
    inline_allowances counts kind nonce digests g.directive.sources
allowances self check.Eval counts g =
    by rule.UnsafeEval (keyword_token keyword.UnsafeEval g.directive.sources) ∷ []
allowances self check.Wasm counts g =
    by rule.UnsafeEval (keyword_token keyword.UnsafeEval g.directive.sources)
    ∷ by rule.WasmUnsafeEval (keyword_token keyword.WasmUnsafeEval g.directive.sources) ∷ []
allowances self (check.Base there) counts g =
    by rule.Source (source_token self there false g.directive.sources) ∷ []
allowances self (check.Form there redirects) counts g =
    by rule.Source (source_token self there (is_redirected redirects) g.directive.sources) ∷ []
allowances self (check.Ancestor there) counts g =
    by rule.Source (source_token self there false g.directive.sources) ∷ []
allowances self check.OpaqueAncestor counts g = []
allowances self (check.Capability capability) counts g =
    by rule.Capability (grant_token capability g.directive.tokens) ∷ []
allowances self check.WorkerStart counts g = by rule.Capability (worker_token g.directive.tokens) ∷ []
