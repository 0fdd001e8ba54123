-- The maps of an index have what the host-sources have.
use Rattle.std.proofs.Common.{◌≡◌, ℕ, Bool, true, ◌&&◌, List, Option, map, sym, ◌∙◌, ap, ap₂, All, Any, Contains}
use Rattle.std.specs.List.{list_any}
use Rattle.std.proofs.lemmas.List.Elements.{All-map}
use Rattle.csp_match.specs.Types.{HostPart, PortPart, HostKey, SchemePort}
use Rattle.csp_match.specs.Entries.{Entry, entry_parts, IsEntry, scheme_of, way_port}
use Rattle.csp_match.specs.Keys.{host_of, IsHostKey, Parts}
use Rattle.csp_match.proofs.AnyLaws.{any_map, any_once, first, second}
use Rattle.csp_match.proofs.KeyLaws.{host_eq, target_eq, way_eq, one_host, one_scheme, one_way_port, one_entry}

abbrev pub entry_eq : Entry → Entry → Bool
entry_eq a b = host_eq a.0 b.0 && target_eq a.1 b.1

abbrev pub pathless_eq : HostKey × SchemePort → HostKey × SchemePort → Bool
pathless_eq a b = host_eq a.0 b.0 && way_eq a.1 b.1

abbrev pub bare : Entry → HostKey × SchemePort
bare e = (e.0, e.1.way)

-- the same items, up to keys that stand for the same
abbrev pub HasSame : {X : Type 0} → (X → X → Bool) → List X → List X → Type 0
HasSame {X} eq items made =
    ((x : X) → Contains made x → Contains items x) × ((x : X) → Contains items x → Any (λ y. eq x y ≡ true) made)

pub same_parts : (entries targets : List Entry) → HasSame entry_eq entries targets → (p : Parts → Bool)
    → list_any p (map entry_parts targets) ≡ list_any p (map entry_parts entries)
same_parts entries targets same p =
    any_map entry_parts p targets
    ∙ (any_once entry_eq entries targets same.0 same.1 (λ (e : Entry). p (entry_parts e)) (λ a b h. ap p (one_entry a b h))
    ∙ sym (any_map entry_parts p entries))

-- ways to hosts are looked at by these alone
same_ways : (ways kept : List (HostKey × SchemePort)) → HasSame pathless_eq ways kept
    → (p : HostPart → Option (List ℕ) → PortPart → Bool)
    → list_any (λ e. p (host_of e.0) (scheme_of e.1) (way_port e.1)) kept
    ≡ list_any (λ e. p (host_of e.0) (scheme_of e.1) (way_port e.1)) ways
same_ways ways kept same p =
    any_once pathless_eq ways kept same.0 same.1 (λ (e : HostKey × SchemePort). p (host_of e.0) (scheme_of e.1) (way_port e.1))
    (λ (a b : HostKey × SchemePort) h.
    let hosts = one_host a.0 b.0 (first (host_eq a.0 b.0) (way_eq a.1 b.1) h) in
    let schemes = one_scheme a.1 b.1 (second (host_eq a.0 b.0) (way_eq a.1 b.1) h) in
    let ports = one_way_port a.1 b.1 (second (host_eq a.0 b.0) (way_eq a.1 b.1) h) in
    ap (λ (f : Option (List ℕ) → PortPart → Bool). f (scheme_of a.1) (way_port a.1)) (ap p hosts) ∙ ap₂ (p (host_of b.0)) schemes ports)

pub same_pathless : (targets : List Entry) (ways pathless : List (HostKey × SchemePort))
    → HasSame pathless_eq (map bare targets) ways → HasSame pathless_eq ways pathless
    → (p : HostPart → Option (List ℕ) → PortPart → Bool)
    → list_any (λ e. p (host_of e.0) (scheme_of e.1) (way_port e.1)) pathless
    ≡ list_any (λ s. p s.host s.scheme s.port) (map entry_parts targets)
same_pathless targets ways pathless few each p =
    let q = λ (e : HostKey × SchemePort). p (host_of e.0) (scheme_of e.1) (way_port e.1) in
    let r = λ (s : Parts). p s.host s.scheme s.port in
    same_ways ways pathless each p
    ∙ (same_ways (map bare targets) ways few p ∙ (any_map bare q targets ∙ sym (any_map entry_parts r targets)))

pub pathless_hosts : (entries : List Entry) → All IsEntry entries
    → All (λ (e : HostKey × SchemePort). IsHostKey e.0) (map bare entries)
pathless_hosts entries each =
    All-map (λ (e : HostKey × SchemePort). IsHostKey e.0) bare entries (λ k d within. (each k d within).0)
