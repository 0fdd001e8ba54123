-- The host-sources of one host, whose paths are looked at but after a redirect.
use Rattle.std.proofs.Common.{◌≡◌, Bool, true, false, ◌&&◌, ◌||◌, List, refl, sym, ◌∙◌, ap}
use Rattle.std.specs.List.{list_any}
use Rattle.csp_model.specs.DecideMatching.{path_matches}
use Rattle.csp_match.specs.Types.{HostPart, HostedUrl}
use Rattle.csp_match.specs.Entries.{way_fits}
use Rattle.csp_match.specs.Keys.{Parts}
use Rattle.csp_match.specs.Under.{same_part, any_under, rest_matches}
use Rattle.csp_match.proofs.AnyLaws.{any_alike}

and_true : (b : Bool) → b ≡ (b && true)
and_true true = refl
and_true false = refl

-- after a redirect no path is looked at
pub under_redirected : (host : HostPart) (asked : HostedUrl) (sources : List Parts) → asked.redirected ≡ true
    → list_any (λ (s : Parts). same_part s.host host && way_fits s.scheme s.port asked) sources ≡ any_under host asked sources
under_redirected host asked sources redirected =
    any_alike _ (λ (s : Parts). same_part s.host host && rest_matches asked s) sources
    (λ (s : Parts). ap (λ (b : Bool). same_part s.host host && b) (and_true (way_fits s.scheme s.port asked)
    ∙ ap (λ (b : Bool). way_fits s.scheme s.port asked && (b || path_matches s.path asked.path.now)) (sym redirected)))

-- before one, every path is
pub under_direct : (host : HostPart) (asked : HostedUrl) (sources : List Parts) → asked.redirected ≡ false
    → list_any (λ (s : Parts). same_part s.host host && (way_fits s.scheme s.port asked && path_matches s.path asked.path.now)) sources ≡ any_under host asked sources
under_direct host asked sources direct =
    any_alike _ (λ (s : Parts). same_part s.host host && rest_matches asked s) sources
    (λ (s : Parts). ap (λ (b : Bool). same_part s.host host && (way_fits s.scheme s.port asked && (b || path_matches s.path asked.path.now))) (sym direct))
