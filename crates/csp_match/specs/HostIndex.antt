-- What holds of the maps of an index.
use Rattle.std.specs.Prelude.{◌≡◌, ℕ, ◌≤◌, Bool, List, Option, All, map}
use Rattle.std.specs.List.{list_any}
use Rattle.csp_model.specs.declared.source.HostPart.{HostPart}
use Rattle.csp_model.specs.declared.source.PortPart.{PortPart}
use Rattle.csp_match.specs.Keys.{host_of, IsHostKey, key_length, Parts}
use Rattle.csp_match.specs.Entries.{entry_parts, IsEntry, scheme_of, way_port}
use Rattle.csp_match.specs.declared.host_index.HostIndex.TheInside.{Inside}

-- the host-sources that an index stands for
abbrev pub parts_inside : Inside → List Parts
parts_inside a = map entry_parts a.targets

-- the keys are those of host-sources, no suffix is longer than the longest, and the bare hosts are those that
-- the targets have
pub record IsHostIndex (a : Inside) : Type 0 where
  pub entries : All IsEntry a.targets
  pub hosts : All (λ e. IsHostKey e.0) a.pathless
  pub short : All (λ e. key_length e.0 ≤ a.longest_suffix) a.targets
  pub pathless : (p : HostPart → Option (List ℕ) → PortPart → Bool)
      → list_any (λ e. p (host_of e.0) (scheme_of e.1) (way_port e.1)) a.pathless
      ≡ list_any (λ s. p s.host s.scheme s.port) (parts_inside a)
