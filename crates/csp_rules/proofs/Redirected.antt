-- After a redirect a URL's path makes no difference.
use Rattle.std.proofs.Common.{◌≡◌, ℕ, Bool, true, ◌||◌, List, [], ◌∷◌, Option, None, Some, IsTrue, refl, ap, ◌∙◌}
use Rattle.csp_model.specs.DecideFetch.{sources_allow, fetch_allows}
use Rattle.csp_model.specs.DecideMatching.{matches, list_matches}
use Rattle.csp_model.specs.Fetch.{is_redirected, fetch_rule}
use Rattle.csp_model.specs.DecideGoverning.{allows_by}
use Rattle.csp_model.specs.Governing.{Governor, governor}
use Rattle.csp_model.specs.Names.{group_directive}
use Rattle.csp_rules.specs.Types.{Group, Policy, Hash, Source, Host, Origin, Scheme, Url}

module _ (scheme : Scheme) (host : Host) (port : Option ℕ) (first second : List (List ℕ)) where
  same_source : (s : Source) (self : Origin)
      → matches s self (Url.Hosted scheme host port first) true ≡ matches s self (Url.Hosted scheme host port second) true
  same_source Source.Star self = refl
  same_source (Source.SchemeOnly part) self = refl
  same_source (Source.Hosted part host_part port_part path_part) self = refl
  same_source (Source.Word word) (Origin.Tuple own own_host own_port) = refl
  same_source (Source.Word word) Origin.Opaque = refl
  same_source (Source.Nonce value) self = refl
  same_source (Source.Digest hash) self = refl
  same_source (Source.Other token) self = refl

  same_list : (sources : List Source) (self : Origin)
      → list_matches sources self (Url.Hosted scheme host port first) true
      ≡ list_matches sources self (Url.Hosted scheme host port second) true
  same_list [] self = refl
  same_list (s ∷ sources) self =
      ap (λ (b : Bool). b || list_matches sources self (Url.Hosted scheme host port first) true) (same_source s self)
      ∙ ap (λ (b : Bool). matches s self (Url.Hosted scheme host port second) true || b) (same_list sources self)

  same_answer : (p : Policy) (kind : Group) (nonce : List ℕ) (integrity : List Hash) (parser_inserted : Bool) (o : Option Governor)
      → allows_by o (λ g. sources_allow (fetch_rule kind g.name) g.directive.sources nonce integrity parser_inserted
      (list_matches g.directive.sources p.origin (Url.Hosted scheme host port first) true))
      ≡ allows_by o (λ g. sources_allow (fetch_rule kind g.name) g.directive.sources nonce integrity parser_inserted
      (list_matches g.directive.sources p.origin (Url.Hosted scheme host port second) true))
  same_answer p kind nonce integrity parser_inserted None = refl
  same_answer p kind nonce integrity parser_inserted (Some g) =
      ap (sources_allow (fetch_rule kind g.name) g.directive.sources nonce integrity parser_inserted)
      (same_list g.directive.sources p.origin)

-- a URL's path makes no difference to a fetch that was redirected
pub path_is_dropped : (p : Policy) (kind : Group) (scheme : Scheme) (host : Host) (port : Option ℕ)
    (first second : List (List ℕ)) (redirects : ℕ) (nonce : List ℕ) (integrity : List Hash) (parser_inserted : Bool)
    → IsTrue (is_redirected redirects)
    → fetch_allows p kind (Url.Hosted scheme host port first) redirects nonce integrity parser_inserted
    ≡ fetch_allows p kind (Url.Hosted scheme host port second) redirects nonce integrity parser_inserted
path_is_dropped p kind scheme host port first second redirects nonce integrity parser_inserted redirected =
    rw redirected (same_answer scheme host port first second p kind nonce integrity parser_inserted (governor p (group_directive kind)))
