-- Words of the laws: a policy in which the directive that governs is another one.
use Rattle.std.specs.Prelude.{◌≡◌, ℕ, zero, suc, Bool, false, not, ◌||◌, if◌then◌else◌, List, [], ◌∷◌, ◌++◌, codes, map, Option, Some, None, slice_get, unwrap_or, ⊤}
use Rattle.std.specs.List.{cons_option, filter}
use Rattle.csp_model.specs.DecideTokens.{is_keyword}
use Rattle.csp_model.specs.Governing.{is_named}
use Rattle.csp_model.specs.Inline.{is_nonce_or_hash}
use Rattle.csp_model.specs.Matching.{PortMatches, SchemeMatches, url_scheme}
use Rattle.csp_model.specs.Parts.{checked_integrity, checked_url}
use Rattle.csp_model.specs.Paths.{host_text}
use Rattle.csp_model.specs.declared.check.Check.{Check}
use Rattle.csp_model.specs.declared.check.Check.TheVariants as check
use Rattle.csp_model.specs.declared.name.Name.{Name}
use Rattle.csp_model.specs.declared.policy.Directive.{Directive}
use Rattle.csp_model.specs.declared.policy.Policy.{Policy}
use Rattle.csp_model.specs.declared.source.Hash.{Hash}
use Rattle.csp_model.specs.declared.source.Keyword.TheVariants as keyword
use Rattle.csp_model.specs.declared.source.Source.{Source}
use Rattle.csp_model.specs.declared.source.Source.TheVariants as source
use Rattle.csp_model.specs.declared.url.Origin.{Origin}
use Rattle.csp_model.specs.declared.url.Url.{Url}
use Rattle.csp_model.specs.declared.url.Url.TheVariants as url
use Rattle.csp_why.specs.Missing.{port_of}
use Rattle.csp_why.specs.Allowances.{is_some_hash, is_for_worker}
use Rattle.csp_why.specs.Near.{changed}
use Rattle.csp_why.specs.declared.reason.Allowance.{Allowance}
use Rattle.csp_why.specs.declared.reason.Near.{Near}
use Rattle.csp_why.specs.declared.reason.Rule.{Rule}
use Rattle.csp_why.specs.declared.reason.Rule.TheVariants as rule
use Rattle.csp_why.specs.declared.reason.Obstacle.{Obstacle}
use Rattle.csp_why.specs.declared.reason.Obstacle.TheVariants as word

abbrev pub change_named : Name → (Directive → Directive) → Directive → Directive
change_named name change d = if is_named name d then change d else d

-- the policy with the directives of a name changed, all else as it is
abbrev pub with_changed : Name → (Directive → Directive) → Policy → Policy
with_changed name change policy = record {
  disposition = policy.disposition;
  meta = policy.meta;
  origin = policy.origin;
  directives = map (change_named name change) policy.directives;
}

-- One token alone

-- what a rule needs beside the token that is told: the other hashes of the metadata, or 'unsafe-hashes'
abbrev pub needs : Rule → Check → Source → Bool
needs rule.Integrity (check.Fetch group there redirects nonce integrity parser_inserted) s =
    is_some_hash integrity s
needs rule.Hash asked s = is_keyword keyword.UnsafeHashes s
needs which asked s = false

-- what a worker needs of a sandbox
abbrev pub needs_grant : Check → List ℕ → Bool
needs_grant check.WorkerStart token = is_for_worker token
needs_grant asked token = false

-- the directive with the token that is told alone, and with what its rule needs
abbrev pub alone : Check → Allowance → Directive → Directive
alone asked told d = record {
  name = d.name;
  tokens = cons_option (slice_get d.tokens told.token) (filter (needs_grant asked) d.tokens);
  sources = cons_option (slice_get d.sources told.token) (filter (needs told.rule asked) d.sources);
}

-- One token changed

-- the items with another one at this place, made of the one that stands there
abbrev pub change_at : {A : Type 0} → (A → A) → ℕ → List A → List A
change_at f place [] = []
change_at f zero (x ∷ xs) = f x ∷ xs
change_at f (suc place) (x ∷ xs) = x ∷ change_at f place xs

-- the source with the part changed so that it fits the check's URL
abbrev pub fitted : Origin → Obstacle → Option Url → Source → Source
fitted self which (Some there) s = unwrap_or (changed which self there s) s
fitted self which None s = s

abbrev pub is_dynamic : Source → Bool
is_dynamic s = is_keyword keyword.StrictDynamic s

-- the sources without what the word tells of: what takes the token's place is gone, or 'unsafe-hashes' or the
-- whole of this integrity metadata is there, or the token has the part changed so that it fits
abbrev pub mended : Origin → List Hash → Obstacle → Option Url → ℕ → List Source → List Source
mended self integrity word.StrictDynamic there token sources = filter (λ s. not (is_dynamic s)) sources
mended self integrity word.Nonce there token sources = filter (λ s. not (is_nonce_or_hash s || is_dynamic s)) sources
mended self integrity word.Hash there token sources = filter (λ s. not (is_nonce_or_hash s || is_dynamic s)) sources
mended self integrity word.UnsafeHashes there token sources = source.Word keyword.UnsafeHashes ∷ sources
mended self integrity word.Integrity there token sources = map (λ hash. source.Digest hash) integrity ++ sources
mended self integrity which there token sources = change_at (fitted self which there) token sources

abbrev pub metadata_of : Check → List Hash
metadata_of asked = unwrap_or (checked_integrity asked) []

-- a sandbox's tokens with the one that the word tells of
abbrev pub granted : Obstacle → List (List ℕ) → List (List ℕ)
granted word.AllowScripts tokens = codes "allow-scripts" ∷ tokens
granted word.AllowSameOrigin tokens = codes "allow-same-origin" ∷ tokens
granted which tokens = tokens

abbrev pub mended_directive : Origin → Check → Near → Directive → Directive
mended_directive self asked n d = record {
  name = d.name;
  tokens = granted n.word d.tokens;
  sources = mended self (metadata_of asked) n.word (checked_url asked) n.token d.sources;
}

-- A source added

abbrev pub with_source : Source → Directive → Directive
with_source added d = record { name = d.name; tokens = d.tokens; sources = added ∷ d.sources }

-- the check of another URL after so many redirects, all else as it is
abbrev pub moved : Url → ℕ → Check → Check
moved there redirects (check.Fetch group url count nonce integrity parser_inserted) =
    check.Fetch group there redirects nonce integrity parser_inserted
moved there redirects (check.Base url) = check.Base there
moved there redirects (check.Form url count) = check.Form there redirects
moved there redirects (check.Ancestor url) = check.Ancestor there
moved there redirects asked = asked

-- the same host, and the port that is meant
abbrev pub SameEnd : Url → Url → Type 0
SameEnd (url.Plain scheme) other = ⊤
SameEnd (url.Hosted scheme host port path) (url.Plain other) = ⊥
SameEnd (url.Hosted scheme host port path) (url.Hosted other there number pieces) =
    (host_text host ≡ host_text there) × PortMatches (port_of port) number other

-- the other URL has the scheme of this one, or one that it stands for, and its host and port
abbrev pub IsAt : Url → Url → Type 0
IsAt there other = SchemeMatches (url_scheme there) (url_scheme other) × SameEnd there other
