-- The sources of a list, by their kinds.
use Rattle.std.specs.Prelude.{ℕ, Bool, true, false, ◌&&◌, ◌||◌, List, Option, Some, None, filter_map}
use Rattle.std.specs.List.{list_any}
use Rattle.csp_model.specs.DecideMatching.{host_source_matches, is_network_scheme, scheme_matches, self_matches}
use Rattle.csp_model.specs.Matching.{url_scheme}
use Rattle.csp_model.specs.DecideEquality.{same_keyword}
use Rattle.csp_model.specs.declared.url.Origin.{Origin}
use Rattle.csp_model.specs.declared.url.Url.{Url}
use Rattle.csp_model.specs.declared.source.Source.{Source}
use Rattle.csp_model.specs.declared.source.Keyword.{Keyword}
use Rattle.csp_match.specs.Keys.{parts_of, Parts}

abbrev pub is_star : Source → Bool
is_star Source.Star = true
is_star s = false

abbrev pub is_self : Source → Bool
is_self (Source.Word word) = same_keyword word Keyword.SelfOrigin
is_self s = false

-- the scheme of a scheme-source
abbrev pub scheme_part : Source → Option (List ℕ)
scheme_part (Source.SchemeOnly scheme) = Some scheme
scheme_part s = None

abbrev pub scheme_parts : List Source → List (List ℕ)
scheme_parts sources = filter_map scheme_part sources

abbrev pub host_sources : List Source → List Parts
host_sources sources = filter_map parts_of sources

-- one of the host-sources matches
abbrev pub any_host_source : List Parts → Origin → Url → Bool → Bool
any_host_source sources self there redirected =
    list_any (λ s. host_source_matches s.scheme s.host s.port s.path self there redirected) sources

-- "*" or 'self' stands in the list and matches
abbrev pub by_star_or_self : List Source → Origin → Url → Bool
by_star_or_self sources self there =
    list_any is_star sources && is_network_scheme (url_scheme there)
    || list_any is_self sources && self_matches self there

-- one of the scheme-sources or of the host-sources matches
abbrev pub by_scheme_or_host : List Source → Origin → Url → Bool → Bool
by_scheme_or_host sources self there redirected =
    list_any (λ part. scheme_matches part (url_scheme there)) (scheme_parts sources)
    || any_host_source (host_sources sources) self there redirected
