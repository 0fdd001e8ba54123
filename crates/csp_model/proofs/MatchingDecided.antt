-- The tests of `DecideMatching` decide what `Matching` says.
use Rattle.std.proofs.Common.{◌≡◌, ℕ, ◌&&◌, ◌||◌, Bool, List, Option, Some, None, Contains, refl, inl, inr, ◌⊎◌}
use Rattle.std.specs.Prelude.{unwrap_or}
use Rattle.std.specs.Bool.{Decides}
use Rattle.std.specs.List.{list_any}
use Rattle.std.specs.Str.{bytes_eq}
use Rattle.std.specs.Cmp.Lexicographic.{pointwise}
use Rattle.std.proofs.lemmas.Bool.Decides.{Decides-and, Decides-or, Decides-eqb}
use Rattle.std.proofs.lemmas.Slice.Eq.{bytes_eq-Decides, slice_eq-Decides}
use Rattle.csp_model.specs.DecideEnds.{is_host_under}
use Rattle.csp_model.specs.Matching.{upgrades, SchemeMatches, url_scheme, IsDomainHost, IsHostUnder, HostMatches, PortMatches, PathMatches, SchemeOrOwn, SelfMatches, HostSourceMatches, network_schemes, Matches, ListMatches}
use Rattle.csp_model.specs.DecideMatching.{scheme_matches, is_domain_host, host_matches, port_matches, path_matches, own_scheme_matches, self_scheme_matches, self_matches, host_source_matches, matches, list_matches}
use Rattle.csp_model.specs.Paths.{host_text}
use Rattle.csp_model.specs.DecideEquality.{same_host, same_port, same_keyword}
use Rattle.csp_model.specs.Schemes.{scheme_text, default_port}
use Rattle.csp_model.proofs.Deciding.{no, yes, itself, both3, both4, any_decides, has_decides, none_decides}
use Rattle.csp_model.proofs.EndLaws.{subdomain_Decides, beyond_Decides}
use Rattle.csp_model.proofs.EqualityDecided.{same_host_decides, same_port_decides, same_keyword_decides}
use Rattle.csp_model.specs.Types.{Scheme, Host, Origin, Url, HostPart, PortPart, PathPart, Keyword, Source}
use Rattle.csp_model.specs.declared.url.Scheme.TheVariants.{Http, Https, Ws, Wss, Ftp}
use Rattle.csp_model.specs.declared.url.Host.TheVariants.{Domain, Address}

-- Schemes

pub scheme_decides : (part scheme : List ℕ) → Decides (scheme_matches part scheme) (SchemeMatches part scheme)
scheme_decides part scheme =
    let p = λ (pair : List ℕ × List ℕ). bytes_eq pair.0 part && bytes_eq pair.1 scheme in
    let P = λ (pair : List ℕ × List ℕ). (pair.0 ≡ part) × (pair.1 ≡ scheme) in
    Decides-or (bytes_eq part scheme) (list_any p upgrades) (bytes_eq-Decides part scheme)
    (any_decides p P (λ pair. Decides-and (bytes_eq pair.0 part) (bytes_eq pair.1 scheme)
    (bytes_eq-Decides pair.0 part) (bytes_eq-Decides pair.1 scheme)) upgrades)

pub own_scheme_decides : (part : Option (List ℕ)) (self : Origin) (scheme : List ℕ)
    → Decides (own_scheme_matches part self scheme) (SchemeOrOwn part self (λ asked. SchemeMatches asked scheme))
own_scheme_decides (Some part) self scheme = scheme_decides part scheme
own_scheme_decides None (Origin.Tuple own host port) scheme = scheme_decides (scheme_text own) scheme
own_scheme_decides None Origin.Opaque scheme = no (λ h. h)

abbrev SelfScheme : Scheme → Scheme → Type 0
SelfScheme own scheme = (own ≡ scheme) ⊎ ((scheme ≡ Https) ⊎ ((scheme ≡ Wss) ⊎ ((own ≡ Http) × (scheme ≡ Ws))))

self_scheme_decides : (own scheme : Scheme) → Decides (self_scheme_matches own scheme) (SelfScheme own scheme)
self_scheme_decides own Https = yes (inr (inl refl))
self_scheme_decides own Wss = yes (inr (inr (inl refl)))
self_scheme_decides Http Http = yes (inl refl)
self_scheme_decides Http Ws = yes (inr (inr (inr (refl, refl))))
self_scheme_decides Ws Ws = yes (inl refl)
self_scheme_decides Ftp Ftp = yes (inl refl)
self_scheme_decides own scheme = no (λ (h : SelfScheme own scheme). elim h [
  | inl same ↦ cc
  | inr other ↦ elim other [ inl https ↦ cc | inr more ↦ elim more [ inl wss ↦ cc | inr both ↦ cc ] ]
])

pub network_decides : (scheme : List ℕ)
    → Decides (list_any (λ known. bytes_eq known scheme) network_schemes) (Contains network_schemes scheme)
network_decides scheme =
    has_decides (λ known. bytes_eq known scheme) scheme (λ known. bytes_eq-Decides known scheme) network_schemes

-- Hosts, ports and paths

pub domain_host_decides : (host : Host) → Decides (is_domain_host host) (IsDomainHost host)
domain_host_decides (Domain text) = yes tt
domain_host_decides (Address text) = no (λ h. h)

pub host_under_decides : (host : Host) (suffix : List ℕ) → Decides (is_host_under host suffix) (IsHostUnder host suffix)
host_under_decides (Domain text) suffix = subdomain_Decides text suffix
host_under_decides (Address text) suffix = no (λ h. h)

pub host_decides : (part : HostPart) (host : Host) → Decides (host_matches part host) (HostMatches part host)
host_decides HostPart.Any host = domain_host_decides host
host_decides (HostPart.Under suffix) host = host_under_decides host suffix
host_decides (HostPart.Exact text) host = bytes_eq-Decides text (host_text host)

pub port_decides : (part : PortPart) (port : Option ℕ) (scheme : Scheme)
    → Decides (port_matches part port scheme) (PortMatches part port scheme)
port_decides PortPart.Absent port scheme = none_decides port
port_decides PortPart.Any port scheme = yes tt
port_decides (PortPart.Number n) port scheme = Decides-eqb (unwrap_or port (default_port scheme)) n
port_decides PortPart.TooLarge port scheme = no (λ h. h)

pub pieces_decide : (p q : List (List ℕ)) → Decides (pointwise bytes_eq p q) (p ≡ q)
pieces_decide p q = slice_eq-Decides bytes_eq-Decides p q (pointwise bytes_eq p q) refl

pub path_decides : (part : PathPart) (path : List (List ℕ)) → Decides (path_matches part path) (PathMatches part path)
path_decides PathPart.Absent path = yes tt
path_decides (PathPart.Exact pieces) path = pieces_decide pieces path
path_decides (PathPart.Prefix pieces) path = beyond_Decides path pieces

-- 'self'

pub self_decides : (self : Origin) (there : Url) → Decides (self_matches self there) (SelfMatches self there)
self_decides (Origin.Tuple own own_host own_port) (Url.Hosted scheme host port path) =
    both3 (same_host own_host host) (same_port own_port port) (self_scheme_matches own scheme)
    (same_host_decides own_host host) (same_port_decides own_port port) (self_scheme_decides own scheme)
self_decides self there = no (λ h. h)

-- Source expressions

pub host_source_decides : (scheme_part : Option (List ℕ)) (host_part : HostPart) (port_part : PortPart) (path_part : PathPart)
    (self : Origin) (there : Url) (redirected : Bool)
    → Decides (host_source_matches scheme_part host_part port_part path_part self there redirected)
    (HostSourceMatches scheme_part host_part port_part path_part self there redirected)
host_source_decides scheme_part host_part port_part path_part self (Url.Plain scheme) redirected = no (λ h. h)
host_source_decides scheme_part host_part port_part path_part self (Url.Hosted scheme host port path) redirected =
    both4 (own_scheme_matches scheme_part self (scheme_text scheme)) (host_matches host_part host)
    (port_matches port_part port scheme) (redirected || path_matches path_part path)
    (own_scheme_decides scheme_part self (scheme_text scheme)) (host_decides host_part host)
    (port_decides port_part port scheme)
    (Decides-or redirected (path_matches path_part path) (itself redirected) (path_decides path_part path))

pub matches_decides : (s : Source) (self : Origin) (there : Url) (redirected : Bool)
    → Decides (matches s self there redirected) (Matches s self there redirected)
matches_decides Source.Star self there redirected = network_decides (url_scheme there)
matches_decides (Source.SchemeOnly scheme) self there redirected = scheme_decides scheme (url_scheme there)
matches_decides (Source.Hosted scheme host port path) self there redirected =
    host_source_decides scheme host port path self there redirected
matches_decides (Source.Word word) self there redirected =
    Decides-and (same_keyword word Keyword.SelfOrigin) (self_matches self there)
    (same_keyword_decides word Keyword.SelfOrigin) (self_decides self there)
matches_decides (Source.Nonce value) self there redirected = no (λ h. h)
matches_decides (Source.Digest hash) self there redirected = no (λ h. h)
matches_decides (Source.Other token) self there redirected = no (λ h. h)

pub list_decides : (sources : List Source) (self : Origin) (there : Url) (redirected : Bool)
    → Decides (list_matches sources self there redirected) (ListMatches sources self there redirected)
list_decides sources self there redirected =
    any_decides (λ s. matches s self there redirected) (λ s. Matches s self there redirected)
    (λ s. matches_decides s self there redirected) sources
