-- What holds of the parts of an index.
use Rattle.std.specs.Prelude.{◌≡◌, ℕ, Bool, List}
use Rattle.std.specs.List.{list_any}
use Rattle.csp_match.specs.Keys.{Parts}
use Rattle.csp_match.specs.Split.{is_star, is_self, scheme_parts, host_sources}
use Rattle.csp_match.specs.declared.index.Index.TheInside.{Inside}

-- each kind of source is in its part, as often as it may stand there
pub record IsIndex (a : Inside) : Type 0 where
  pub star : a.has_star ≡ list_any is_star a.sources.now
  pub self_origin : a.has_self ≡ list_any is_self a.sources.now
  pub schemes : (p : List ℕ → Bool)
      → list_any (λ t. p t.now) a.schemes.items ≡ list_any p (scheme_parts a.sources.now)
  pub hosts : (p : Parts → Bool) → list_any p a.hosts ≡ list_any p (host_sources a.sources.now)
