-- Which host-sources match a URL, told apart by their hosts.
use Rattle.std.specs.Prelude.{ℕ, ◌&&◌, ◌||◌, Bool, true, false, List}
use Rattle.std.specs.List.{list_any}
use Rattle.std.specs.Str.{bytes_eq}
use Rattle.csp_model.specs.DecideMatching.{own_scheme_matches, host_matches, port_matches, path_matches}
use Rattle.csp_model.specs.Ends.{is_subdomain}
use Rattle.csp_model.specs.Schemes.{scheme_text}
use Rattle.csp_model.specs.declared.source.HostPart.{HostPart}
use Rattle.csp_match.specs.Keys.{Parts}
use Rattle.csp_match.specs.Entries.{way_fits}
use Rattle.csp_match.specs.declared.hosted_url.HostedUrl.{HostedUrl}

-- a host-source matches a URL
abbrev pub parts_match : HostedUrl → Parts → Bool
parts_match asked s =
    own_scheme_matches s.scheme asked.origin.now (scheme_text asked.scheme)
    && (host_matches s.host asked.host.now && (port_matches s.port asked.port asked.scheme
    && (asked.redirected || path_matches s.path asked.path.now)))

-- all but the host
abbrev pub rest_matches : HostedUrl → Parts → Bool
rest_matches asked s =
    way_fits s.scheme s.port asked && (asked.redirected || path_matches s.path asked.path.now)

-- two hosts are the same
abbrev pub same_part : HostPart → HostPart → Bool
same_part HostPart.Any HostPart.Any = true
same_part (HostPart.Under s) (HostPart.Under t) = bytes_eq s t
same_part (HostPart.Exact s) (HostPart.Exact t) = bytes_eq s t
same_part a b = false

-- one of the host-sources of this host matches
abbrev pub any_under : HostPart → HostedUrl → List Parts → Bool
any_under host asked sources = list_any (λ s. same_part s.host host && rest_matches asked s) sources

-- the domain ends in a dot and the host's suffix
abbrev pub is_suffixed : List ℕ → HostPart → Bool
is_suffixed domain HostPart.Any = false
is_suffixed domain (HostPart.Under suffix) = is_subdomain domain suffix
is_suffixed domain (HostPart.Exact text) = false

abbrev pub any_suffixed : List ℕ → HostedUrl → List Parts → Bool
any_suffixed domain asked sources = list_any (λ s. is_suffixed domain s.host && rest_matches asked s) sources
