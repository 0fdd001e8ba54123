-- The tokens of a directive that nearly allow a check that it blocks.
use Rattle.std.specs.Prelude.{ℕ, ◌+◌, ◌&&◌, ◌||◌, Bool, true, false, codes, nat_eq, if◌then◌else◌, List, [], ◌∷◌, Option, Some, None}
use Rattle.std.specs.List.{ends_with, find, cons_option}
use Rattle.std.specs.Option.{option_map}
use Rattle.std.specs.Str.{bytes_eq}
use Rattle.csp_model.specs.DecideMatching.{matches}
use Rattle.csp_model.specs.DecideTokens.{is_keyword, is_hash_of}
use Rattle.csp_model.specs.Fetch.{fetch_rule, is_redirected}
use Rattle.csp_model.specs.Governing.{Governor}
use Rattle.csp_model.specs.Paths.{host_text}
use Rattle.csp_model.specs.Schemes.{scheme_text}
use Rattle.csp_model.specs.declared.check.Capability.TheVariants as capability
use Rattle.csp_model.specs.declared.check.Check.{Check}
use Rattle.csp_model.specs.declared.check.Check.TheVariants as check
use Rattle.csp_model.specs.declared.check.Digests.{Digests}
use Rattle.csp_model.specs.declared.check.FetchRule.{FetchRule}
use Rattle.csp_model.specs.declared.check.FetchRule.TheVariants as fetch
use Rattle.csp_model.specs.declared.name.Name.{Name}
use Rattle.csp_model.specs.declared.source.Hash.{Hash}
use Rattle.csp_model.specs.declared.source.HostPart.{HostPart}
use Rattle.csp_model.specs.declared.source.HostPart.TheVariants as host
use Rattle.csp_model.specs.declared.source.Keyword.TheVariants as keyword
use Rattle.csp_model.specs.declared.source.PathPart.TheVariants as path
use Rattle.csp_model.specs.declared.source.PortPart.TheVariants as port
use Rattle.csp_model.specs.declared.source.Source.{Source}
use Rattle.csp_model.specs.declared.source.Source.TheVariants as source
use Rattle.csp_model.specs.declared.url.Host.{Host}
use Rattle.csp_model.specs.declared.url.Origin.{Origin}
use Rattle.csp_model.specs.declared.url.Origin.TheVariants as origin
use Rattle.csp_model.specs.declared.url.Scheme.{Scheme}
use Rattle.csp_model.specs.declared.url.Scheme.TheVariants.{Ws, Wss}
use Rattle.csp_model.specs.declared.url.Url.{Url}
use Rattle.csp_model.specs.declared.url.Url.TheVariants as url
use Rattle.csp_why.specs.Allowances.{is_some_hash, token_grants}
use Rattle.csp_why.specs.Missing.{port_of}
use Rattle.csp_why.specs.declared.reason.Near.{Near}
use Rattle.csp_why.specs.declared.reason.Obstacle.{Obstacle}
use Rattle.csp_why.specs.declared.reason.Obstacle.TheVariants as word

-- One part of a source

-- 'self' written as a host-source of the origin's scheme, host and port, with its scheme that of the URL or its
-- port any; none where the origin is opaque
abbrev pub changed_self : Obstacle → Origin → Url → Option Source
changed_self word.Scheme (origin.Tuple own at number) (url.Hosted scheme h p pieces) =
    Some (source.Hosted (Some (scheme_text scheme)) (host.Exact (host_text at)) (port_of number) path.Absent)
changed_self word.Port (origin.Tuple own at number) there =
    Some (source.Hosted (Some (scheme_text own)) (host.Exact (host_text at)) port.Any path.Absent)
changed_self which self there = None

abbrev pub is_socket : Scheme → Bool
is_socket Ws = true
is_socket Wss = true
is_socket scheme = false

abbrev pub is_web : List ℕ → Bool
is_web scheme = bytes_eq scheme (codes "http") || bytes_eq scheme (codes "https")

-- a scheme-source of http or https, where the URL is of a web socket, with the URL's scheme
abbrev pub socket_scheme : List ℕ → Scheme → Option Source
socket_scheme part scheme =
    if is_socket scheme && is_web part then Some (source.SchemeOnly (scheme_text scheme)) else None

abbrev pub changed_scheme : Obstacle → List ℕ → Url → Option Source
changed_scheme word.Scheme part (url.Hosted scheme h p pieces) = socket_scheme part scheme
changed_scheme which part there = None

-- a source with one part changed so that it fits the URL: its scheme is the URL's, its port any, its path none,
-- or its host the suffix itself; none where there is no such part to change
abbrev pub changed : Obstacle → Origin → Url → Source → Option Source
changed word.Scheme self (url.Hosted scheme h p pieces) (source.Hosted part host_part port_part path_part) =
    Some (source.Hosted (Some (scheme_text scheme)) host_part port_part path_part)
changed word.Scheme self there (source.Word keyword.SelfOrigin) = changed_self word.Scheme self there
changed word.Scheme self there (source.SchemeOnly part) = changed_scheme word.Scheme part there
changed word.Port self there (source.Hosted part host_part port_part path_part) =
    Some (source.Hosted part host_part port.Any path_part)
changed word.Port self there (source.Word keyword.SelfOrigin) = changed_self word.Port self there
changed word.Path self there (source.Hosted part host_part port_part path_part) =
    Some (source.Hosted part host_part port_part path.Absent)
changed word.Suffix self there (source.Hosted part (host.Under suffix) port_part path_part) =
    Some (source.Hosted part (host.Exact suffix) port_part path_part)
changed which self there s = None

abbrev pub some_matches : Option Source → Origin → Url → Bool → Bool
some_matches (Some s) self there redirected = matches s self there redirected
some_matches None self there redirected = false

abbrev pub parts : List Obstacle
parts = word.Scheme ∷ word.Port ∷ word.Path ∷ word.Suffix ∷ []

-- of a source that doesn't match, the part that alone keeps it from matching
abbrev pub wrong_part : Origin → Url → Bool → Source → Option Obstacle
wrong_part self there redirected s =
    find (λ part. some_matches (changed part self there s) self there redirected) parts

-- A word of private contracts: a part of the source can be changed so that it fits, as far as the ends of hosts
-- and the kind of the source tell.

abbrev pub ends_as : HostPart → Host → Bool
ends_as host.Any there = true
ends_as (host.Under suffix) there = ends_with nat_eq (host_text there) suffix
ends_as (host.Exact text) there = ends_with nat_eq (host_text there) text

abbrev pub may_fit : Source → Url → Bool
may_fit (source.Hosted part at ports paths) (url.Hosted there h p pieces) = ends_as at h
may_fit (source.Word which) there = true
may_fit (source.SchemeOnly part) there = true
may_fit s there = false

-- The word for each token

-- a source that matches and doesn't count, or one that fails by one part
abbrev pub near_source : Option Obstacle → Origin → Url → Bool → Source → Option Obstacle
near_source None self there redirected s = wrong_part self there redirected s
near_source (Some by) self there redirected s = if matches s self there redirected then Some by else None

-- 'unsafe-inline' that doesn't count, or a hash of the very text
abbrev pub near_inline : Option Obstacle → Digests → Source → Option Obstacle
near_inline displaced digests s =
    if is_keyword keyword.UnsafeInline s then displaced
    else if is_hash_of digests s then Some word.UnsafeHashes
    else None

-- a hash of a script's metadata
abbrev pub is_part_of_metadata : FetchRule → List Hash → Source → Bool
is_part_of_metadata fetch.Script integrity s = is_some_hash integrity s
is_part_of_metadata which integrity s = false

-- what keeps a token of a directive of this name from allowing a check that the directive blocks
abbrev pub near_word : Origin → Name → Check → Option Obstacle → Source → Option Obstacle
near_word self name (check.Fetch group there redirects nonce integrity parser_inserted) displaced s =
    if is_part_of_metadata (fetch_rule group name) integrity s then Some word.Integrity
    else near_source displaced self there (is_redirected redirects) s
near_word self name (check.Inline kind nonce digests) displaced s = near_inline displaced digests s
near_word self name (check.Base there) displaced s = near_source displaced self there false s
near_word self name (check.Form there redirects) displaced s =
    near_source displaced self there (is_redirected redirects) s
near_word self name (check.Ancestor there) displaced s = near_source displaced self there false s
near_word self name asked displaced s = None

-- a sandbox's token that a worker needs, and the other one, which is missing
abbrev pub near_grant : List ℕ → Option Obstacle
near_grant token =
    if token_grants capability.Scripts token then Some word.AllowSameOrigin
    else if token_grants capability.SameOrigin token then Some word.AllowScripts
    else None

-- the items with a word, where the first has this number
abbrev pub near_from : {A : Type 0} → (A → Option Obstacle) → ℕ → List A → List Near
near_from word_of number [] = []
near_from word_of number (x ∷ items) =
    cons_option (option_map (λ w. record { token = number; word = w }) (word_of x))
    (near_from word_of (number + 1) items)

-- the tokens of what governs that come near
abbrev pub near_of : Origin → Check → Option Obstacle → Governor → List Near
near_of self check.WorkerStart displaced g = near_from near_grant 0 g.directive.tokens
near_of self asked displaced g = near_from (near_word self g.name asked displaced) 0 g.directive.sources
