-- What schemes, hosts, ports, paths and source expressions match, and what they don't.
use Rattle.std.proofs.Common.{◌≡◌, ℕ, false, List, [], ◌∷◌, Option, Some, None, refl}
use Rattle.std.specs.Prelude.{codes, filter}
use Rattle.csp_model.specs.Matching.{SchemeMatches, HostMatches, PortMatches, PathMatches, SelfMatches, Matches, ListMatches}
use Rattle.csp_model.specs.DecideMatching.{scheme_matches, host_matches, port_matches, path_matches, self_matches, matches, list_matches}
use Rattle.csp_model.specs.Schemes.{scheme_text}
use Rattle.csp_model.proofs.MatchingDecided.{scheme_decides, host_decides, port_decides, path_decides, self_decides, matches_decides, list_decides}
use Rattle.csp_examples.proofs.Cases.{Parts, parted}
use Rattle.csp_examples.proofs.Values.{own, at}
use Rattle.csp_model.specs.declared.url.Scheme.{Scheme}
use Rattle.csp_model.specs.declared.url.Scheme.TheVariants.{Http, Https, Ws, Wss, Ftp}
use Rattle.csp_model.specs.declared.url.Host.{Host}
use Rattle.csp_model.specs.declared.url.Host.TheVariants.{Domain, Address}
use Rattle.csp_model.specs.declared.url.Origin.{Origin}
use Rattle.csp_model.specs.declared.url.Origin.TheVariants as origin
use Rattle.csp_model.specs.declared.url.Url.{Url}
use Rattle.csp_model.specs.declared.url.Url.TheVariants as url
use Rattle.csp_model.specs.declared.source.HostPart.{HostPart}
use Rattle.csp_model.specs.declared.source.HostPart.TheVariants as host_part
use Rattle.csp_model.specs.declared.source.PortPart.{PortPart}
use Rattle.csp_model.specs.declared.source.PortPart.TheVariants as port_part
use Rattle.csp_model.specs.declared.source.PathPart.{PathPart}
use Rattle.csp_model.specs.declared.source.PathPart.TheVariants as path_part
use Rattle.csp_model.specs.declared.source.Keyword.TheVariants as keyword
use Rattle.csp_model.specs.declared.source.Source.{Source}
use Rattle.csp_model.specs.declared.source.Source.TheVariants as source

-- Schemes: of the five ten pairs match

abbrev schemes : List Scheme
schemes = Http ∷ Https ∷ Ws ∷ Wss ∷ Ftp ∷ []

abbrev matched : Scheme → List Scheme
matched Http = Http ∷ Https ∷ []
matched Https = Https ∷ []
matched Ws = Http ∷ Https ∷ Ws ∷ Wss ∷ []
matched Wss = Https ∷ Wss ∷ []
matched Ftp = Ftp ∷ []

pub ten_pairs_match : (a : Scheme)
    → filter (λ b. scheme_matches (scheme_text a) (scheme_text b)) schemes ≡ matched a
ten_pairs_match Http = refl
ten_pairs_match Https = refl
ten_pairs_match Ws = refl
ten_pairs_match Wss = refl
ten_pairs_match Ftp = refl

pub schemes_match : Parts (λ (c : List ℕ × List ℕ). SchemeMatches c.0 c.1) (
    (codes "http", codes "https")
    -- another scheme matches itself
    ∷ (codes "data", codes "data") ∷ []) (
    (codes "https", codes "http")
    ∷ (codes "data", codes "blob") ∷ [])
schemes_match =
    parted (λ (c : List ℕ × List ℕ). scheme_matches c.0 c.1)
    (λ c. scheme_decides c.0 c.1) refl refl

-- Hosts

pub hosts_match : Parts (λ (c : HostPart × Host). HostMatches c.0 c.1) (
    -- a suffix what is below it
    (host_part.Under (codes "a.example"), Domain (codes "x.a.example"))
    -- "*" each domain
    ∷ (host_part.Any, Domain (codes "a.example"))
    -- a name the address that is printed so
    ∷ (host_part.Exact (codes "10.0.0.1"), Address (codes "10.0.0.1")) ∷ []) (
    -- a suffix not itself, and no longer label
    (host_part.Under (codes "a.example"), Domain (codes "a.example"))
    ∷ (host_part.Under (codes "a.example"), Domain (codes "xa.example"))
    -- nor an address
    ∷ (host_part.Under (codes "0.0.1"), Address (codes "10.0.0.1"))
    -- a last dot counts
    ∷ (host_part.Exact (codes "a.example."), Domain (codes "a.example"))
    ∷ (host_part.Exact (codes "10.0.0.1."), Address (codes "10.0.0.1"))
    -- and so does a zero
    ∷ (host_part.Exact (codes "010.0.0.1"), Address (codes "10.0.0.1"))
    -- "*" no address
    ∷ (host_part.Any, Address (codes "10.0.0.1")) ∷ [])
hosts_match = parted (λ (c : HostPart × Host). host_matches c.0 c.1) (λ c. host_decides c.0 c.1) refl refl

-- Ports

pub ports_match : Parts (λ (c : PortPart × Option ℕ × Scheme). PortMatches c.0 c.1 c.2) (
    -- the default port by its number
    (port_part.Number 443, None, Https)
    ∷ (port_part.Number 8443, Some 8443, Https) ∷ []) (
    (port_part.Number 80, None, Https)
    -- no port means the default
    ∷ (port_part.Absent, Some 8443, Https)
    -- a number above 65,535 is no port, not even what is left of it in 16 bits
    ∷ (port_part.TooLarge, Some 34463, Https) ∷ [])
ports_match =
    parted (λ (c : PortPart × Option ℕ × Scheme). port_matches c.0 c.1 c.2)
    (λ c. port_decides c.0 c.1 c.2) refl refl

-- Paths

pub paths_match : Parts (λ (c : PathPart × List (List ℕ)). PathMatches c.0 c.1) (
    -- the root holds every path
    (path_part.Prefix [], [] ∷ [])
    ∷ (path_part.Exact (codes "x" ∷ codes "y" ∷ []), codes "x" ∷ codes "y" ∷ [])
    -- a folder holds what is below
    ∷ (path_part.Prefix (codes "x" ∷ []), codes "x" ∷ codes "y" ∷ []) ∷ []) (
    -- a whole path holds nothing below
    (path_part.Exact (codes "x" ∷ []), codes "x" ∷ codes "y" ∷ [])
    -- a folder is not its name
    ∷ (path_part.Prefix (codes "x" ∷ []), codes "x" ∷ []) ∷ [])
paths_match =
    parted (λ (c : PathPart × List (List ℕ)). path_matches c.0 c.1)
    (λ c. path_decides c.0 c.1) refl refl

-- 'self'

-- http://a.example
abbrev plain_own : Origin
plain_own = origin.Tuple Http (Domain (codes "a.example")) None

abbrev on : Scheme → Url
on scheme = at scheme (codes "a.example") ([] ∷ [])

pub self_matches_its_origin : Parts (λ (c : Origin × Url). SelfMatches c.0 c.1) (
    (own, on Https)
    -- and what is as secure, or more so
    ∷ (own, on Wss)
    ∷ (plain_own, on Https)
    ∷ (plain_own, on Ws) ∷ []) (
    (own, on Http)
    ∷ (own, on Ws)
    -- no other host or port
    ∷ (own, at Https (codes "b.example") ([] ∷ []))
    ∷ (own, url.Hosted Https (Domain (codes "a.example")) (Some 8443) ([] ∷ []))
    -- an opaque origin is no URL's
    ∷ (origin.Opaque, on Https) ∷ [])
self_matches_its_origin =
    parted (λ (c : Origin × Url). self_matches c.0 c.1)
    (λ c. self_decides c.0 c.1) refl refl

-- Source expressions

pub sources_match : Parts (λ (c : Source × Url). Matches c.0 own c.1 false) (
    -- a star matches web sockets and addresses: it goes by the scheme alone
    (source.Star, at Ws (codes "b.example") ([] ∷ []))
    ∷ (source.Star, url.Hosted Http (Address (codes "10.0.0.1")) None ([] ∷ []))
    ∷ (source.SchemeOnly (codes "data"), url.Plain (codes "data")) ∷ []) (
    (source.Star, at Ftp (codes "b.example") ([] ∷ []))
    ∷ (source.Star, url.Plain (codes "data"))
    -- a host matches no URL without one
    ∷ (source.Hosted None host_part.Any port_part.Any path_part.Absent, url.Plain (codes "data"))
    -- and these match none
    ∷ (source.Nonce (codes "abc"), on Https)
    ∷ (source.Word keyword.UnsafeInline, on Https)
    ∷ (source.Other (codes "'none'"), on Https) ∷ [])
sources_match =
    parted (λ (c : Source × Url). matches c.0 own c.1 false)
    (λ c. matches_decides c.0 own c.1 false) refl refl

pub lists_match : Parts (λ (sources : List Source). ListMatches sources own (on Https) false) (
    -- one that matches is enough
    (source.Other (codes "'none'") ∷ source.Star ∷ []) ∷ []) (
    [] ∷ [])
lists_match =
    parted (λ (sources : List Source). list_matches sources own (on Https) false)
    (λ sources. list_decides sources own (on Https) false) refl refl
