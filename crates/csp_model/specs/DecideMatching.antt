-- Whether a source expression matches a URL, as a test. It says what `Matching` says.
use Rattle.std.specs.Prelude.{ℕ, Bool, true, false, ◌&&◌, ◌||◌, ◌==◌, List, Option, Some, None, is_none, unwrap_or}
use Rattle.std.specs.List.{list_any}
use Rattle.std.specs.Str.{bytes_eq}
use Rattle.std.specs.Cmp.Lexicographic.{pointwise}
use Rattle.csp_model.specs.DecideEnds.{is_host_under, goes_beyond}
use Rattle.csp_model.specs.Matching.{upgrades, url_scheme, network_schemes}
use Rattle.csp_model.specs.Paths.{host_text}
use Rattle.csp_model.specs.DecideEquality.{same_host, same_port, same_keyword}
use Rattle.csp_model.specs.Schemes.{scheme_text, default_port}
use Rattle.csp_model.specs.Types.{Scheme, Host, Origin, Url, HostPart, PortPart, PathPart, Source, Keyword}
use Rattle.csp_model.specs.declared.url.Scheme.TheVariants.{Http, Https, Ws, Wss, Ftp}
use Rattle.csp_model.specs.declared.url.Host.TheVariants.{Domain, Address}

abbrev pub scheme_matches : List ℕ → List ℕ → Bool
scheme_matches part scheme =
    bytes_eq part scheme
    || list_any (λ (pair : List ℕ × List ℕ). bytes_eq pair.0 part && bytes_eq pair.1 scheme) upgrades

abbrev pub is_domain_host : Host → Bool
is_domain_host (Domain text) = true
is_domain_host (Address text) = false

abbrev pub host_matches : HostPart → Host → Bool
host_matches HostPart.Any host = is_domain_host host
host_matches (HostPart.Under suffix) host = is_host_under host suffix
host_matches (HostPart.Exact text) host = bytes_eq text (host_text host)

abbrev pub port_matches : PortPart → Option ℕ → Scheme → Bool
port_matches PortPart.Absent port scheme = is_none port
port_matches PortPart.Any port scheme = true
port_matches (PortPart.Number n) port scheme = unwrap_or port (default_port scheme) == n
port_matches PortPart.TooLarge port scheme = false

abbrev pub path_matches : PathPart → List (List ℕ) → Bool
path_matches PathPart.Absent path = true
path_matches (PathPart.Exact pieces) path = pointwise bytes_eq pieces path
path_matches (PathPart.Prefix pieces) path = goes_beyond path pieces

abbrev pub own_scheme_matches : Option (List ℕ) → Origin → List ℕ → Bool
own_scheme_matches (Some part) self scheme = scheme_matches part scheme
own_scheme_matches None (Origin.Tuple own host port) scheme = scheme_matches (scheme_text own) scheme
own_scheme_matches None Origin.Opaque scheme = false

abbrev pub self_scheme_matches : Scheme → Scheme → Bool
self_scheme_matches own Https = true
self_scheme_matches own Wss = true
self_scheme_matches Http Http = true
self_scheme_matches Http Ws = true
self_scheme_matches Ws Ws = true
self_scheme_matches Ftp Ftp = true
self_scheme_matches own scheme = false

abbrev pub self_matches : Origin → Url → Bool
self_matches (Origin.Tuple own own_host own_port) (Url.Hosted scheme host port path) =
    same_host own_host host && (same_port own_port port && self_scheme_matches own scheme)
self_matches self there = false

abbrev pub host_source_matches : Option (List ℕ) → HostPart → PortPart → PathPart → Origin → Url → Bool → Bool
host_source_matches scheme_part host_part port_part path_part self (Url.Plain scheme) redirected = false
host_source_matches scheme_part host_part port_part path_part self
    (Url.Hosted scheme host port path) redirected =
    own_scheme_matches scheme_part self (scheme_text scheme) && (host_matches host_part host
    && (port_matches port_part port scheme && (redirected || path_matches path_part path)))

abbrev pub is_network_scheme : List ℕ → Bool
is_network_scheme scheme = list_any (λ known. bytes_eq known scheme) network_schemes

abbrev pub matches : Source → Origin → Url → Bool → Bool
matches Source.Star self there redirected = is_network_scheme (url_scheme there)
matches (Source.SchemeOnly scheme) self there redirected = scheme_matches scheme (url_scheme there)
matches (Source.Hosted scheme host port path) self there redirected =
    host_source_matches scheme host port path self there redirected
matches (Source.Word word) self there redirected =
    same_keyword word Keyword.SelfOrigin && self_matches self there
matches (Source.Nonce value) self there redirected = false
matches (Source.Digest hash) self there redirected = false
matches (Source.Other token) self there redirected = false

abbrev pub list_matches : List Source → Origin → Url → Bool → Bool
list_matches sources self there redirected = list_any (λ s. matches s self there redirected) sources
