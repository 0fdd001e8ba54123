-- When a source expression matches a URL (Content Security Policy Level 3, section 6.7.2, "URL Matching";
-- each definition bears the name of its algorithm there).
use Rattle.std.specs.Prelude.{◌≡◌, ◌≢◌, ℕ, List, [], ◌∷◌, ◌++◌, Option, Some, None, ◌⊎◌, IsTrue, codes, Bool, Any, Contains, ⊤, unwrap_or}
use Rattle.csp_model.specs.Ascii.{code}
use Rattle.csp_model.specs.Paths.{host_text}
use Rattle.csp_model.specs.Schemes.{scheme_text, default_port}
use Rattle.csp_model.specs.Types.{Scheme, Host, Origin, Url, HostPart, PortPart, PathPart, Source, Keyword}
use Rattle.csp_model.specs.declared.url.Scheme.TheVariants.{Http, Https, Ws, Wss}
use Rattle.csp_model.specs.declared.url.Host.TheVariants.{Domain, Address}

-- scheme-part matches: besides equal schemes, these pairs of an expression's scheme and a URL's
abbrev pub upgrades : List (List ℕ × List ℕ)
upgrades = (codes "http", codes "https") ∷ (codes "ws", codes "wss") ∷ (codes "ws", codes "http")
    ∷ (codes "ws", codes "https") ∷ (codes "wss", codes "https") ∷ []

abbrev pub SchemeMatches : List ℕ → List ℕ → Type 0
SchemeMatches part scheme =
    (part ≡ scheme) ⊎ Any (λ (pair : List ℕ × List ℕ). (pair.0 ≡ part) × (pair.1 ≡ scheme)) upgrades

abbrev pub url_scheme : Url → List ℕ
url_scheme (Url.Plain scheme) = scheme
url_scheme (Url.Hosted scheme host port path) = scheme_text scheme

-- host-part matches: "*" any domain, a suffix the domains that end in "." and it, and an exact host the one
-- that is printed so, be it a domain or an address
abbrev pub IsDomainHost : Host → Type 0
IsDomainHost (Domain text) = ⊤
IsDomainHost (Address text) = ⊥

abbrev pub IsHostUnder : Host → List ℕ → Type 0
IsHostUnder (Domain text) suffix = (front : List ℕ) × (text ≡ front ++ code "." ∷ suffix)
IsHostUnder (Address text) suffix = ⊥

abbrev pub HostMatches : HostPart → Host → Type 0
HostMatches HostPart.Any host = IsDomainHost host
HostMatches (HostPart.Under suffix) host = IsHostUnder host suffix
HostMatches (HostPart.Exact text) host = text ≡ host_text host

-- port-part matches
abbrev pub PortMatches : PortPart → Option ℕ → Scheme → Type 0
PortMatches PortPart.Absent port scheme = port ≡ None
PortMatches PortPart.Any port scheme = ⊤
PortMatches (PortPart.Number n) port scheme = unwrap_or port (default_port scheme) ≡ n
PortMatches PortPart.TooLarge port scheme = ⊥

-- path-part matches: piece by piece; a path that ends in "/" is a proper prefix
abbrev pub PathMatches : PathPart → List (List ℕ) → Type 0
PathMatches PathPart.Absent path = ⊤
PathMatches (PathPart.Exact pieces) path = pieces ≡ path
PathMatches (PathPart.Prefix pieces) path = (rest : List (List ℕ)) × (rest ≢ []) × (path ≡ pieces ++ rest)

-- P of the scheme that a host-source asks for: its own, or else the origin's
abbrev pub SchemeOrOwn : Option (List ℕ) → Origin → (List ℕ → Type 0) → Type 0
SchemeOrOwn (Some scheme) self P = P scheme
SchemeOrOwn None (Origin.Tuple scheme host port) P = P (scheme_text scheme)
SchemeOrOwn None Origin.Opaque P = ⊥

-- 'self' matches: the origin's host and port, and its scheme, a secure one, or ws from http
abbrev pub SelfMatches : Origin → Url → Type 0
SelfMatches (Origin.Tuple own own_host own_port) (Url.Hosted scheme host port path) =
    (own_host ≡ host) × (own_port ≡ port)
    × ((own ≡ scheme) ⊎ ((scheme ≡ Https) ⊎ ((scheme ≡ Wss) ⊎ ((own ≡ Http) × (scheme ≡ Ws)))))
SelfMatches self there = ⊥

-- a host-source matches; after a redirect its path is not looked at
abbrev pub HostSourceMatches : Option (List ℕ) → HostPart → PortPart → PathPart → Origin → Url → Bool → Type 0
HostSourceMatches scheme_part host_part port_part path_part self (Url.Plain scheme) redirected = ⊥
HostSourceMatches scheme_part host_part port_part path_part self
    (Url.Hosted scheme host port path) redirected =
    SchemeOrOwn scheme_part self (λ part. SchemeMatches part (scheme_text scheme))
    × HostMatches host_part host × PortMatches port_part port scheme
    × (IsTrue redirected ⊎ PathMatches path_part path)

-- "*" matches by the scheme alone
abbrev pub network_schemes : List (List ℕ)
network_schemes = codes "http" ∷ codes "https" ∷ codes "ws" ∷ codes "wss" ∷ []

-- a source expression matches a URL
abbrev pub Matches : Source → Origin → Url → Bool → Type 0
Matches Source.Star self there redirected = Contains network_schemes (url_scheme there)
Matches (Source.SchemeOnly scheme) self there redirected = SchemeMatches scheme (url_scheme there)
Matches (Source.Hosted scheme host port path) self there redirected =
    HostSourceMatches scheme host port path self there redirected
Matches (Source.Word word) self there redirected = (word ≡ Keyword.SelfOrigin) × SelfMatches self there
Matches (Source.Nonce value) self there redirected = ⊥
Matches (Source.Digest hash) self there redirected = ⊥
Matches (Source.Other token) self there redirected = ⊥

-- a source list matches a URL
abbrev pub ListMatches : List Source → Origin → Url → Bool → Type 0
ListMatches sources self there redirected = Any (λ s. Matches s self there redirected) sources
