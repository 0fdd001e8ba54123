use Rattle.std.proofs.Common.{ℕ, ◌∙◌, sym, ap, Bool, ◌&&◌, List, Option}
use Rattle.std.specs.List.{list_any}
use Rattle.std.proofs.lemmas.List.Elements.{All-contains}
use Rattle.csp_match.specs.Types.{HostPart, PortPart, HostKey, SchemePort}
use Rattle.csp_model.specs.DecideMatching.{path_matches}
use Rattle.csp_match.specs.Entries.{Entry, entry_parts, IsEntry, scheme_of, target_fits, way_fits, way_port}
use Rattle.csp_match.specs.Keys.{host_of, IsHostKey, Parts}
use Rattle.csp_match.specs.Under.{same_part}
use Rattle.csp_match.proofs.AnyLaws.{any_map, any_same}
use Rattle.csp_match.proofs.KeyLaws.{same_host_key}
use Rattle.csp_match.proofs.UnderLaws.{under_redirected, under_direct}
use Rattle.csp_match.proofs.host_index.HostIndex.matches_under.Goals as goal

pub any_fits-requires : goal.any_fits-requires
any_fits-requires c = c.self.invariant.entries

pub returns-then-asked : goal.returns-then-asked
returns-then-asked c =
    let pairs = c.self.inside.pathless in
    let asked = c.args.asked.now in
    let host = host_of c.args.host in
    let fits = λ (e : HostKey × SchemePort). way_fits (scheme_of e.1) (way_port e.1) asked in
    c.any_way_fits.ensures
    ∙ (c.get.ensures.any fits
    ∙ (any_same _ (λ (e : HostKey × SchemePort). same_part (host_of e.0) host && fits e) pairs
    (λ (e : HostKey × SchemePort) h. ap (λ (b : Bool). b && fits e) (same_host_key e.0 c.args.host (All-contains (λ (e : HostKey × SchemePort). IsHostKey e.0) pairs e c.self.invariant.hosts h) c.requires))
    ∙ (c.self.invariant.pathless (λ (h : HostPart) (s : Option (List ℕ)) (p : PortPart). same_part h host && way_fits s p asked)
    ∙ (ap (λ (sources : List Parts). list_any (λ (s : Parts). same_part s.host host && way_fits s.scheme s.port asked) sources) c.self.view_is
    ∙ under_redirected host asked c.args.self.now c.if-asked.true))))

pub returns-else-asked : goal.returns-else-asked
returns-else-asked c =
    let targets = c.self.inside.targets in
    let asked = c.args.asked.now in
    let host = host_of c.args.host in
    let fits = target_fits asked in
    let here = λ (s : Parts). same_part s.host host && (way_fits s.scheme s.port asked && path_matches s.path asked.path.now) in
    c.any_fits.ensures
    ∙ (any_same _ (λ (e : Entry). here (entry_parts e)) targets
    (λ (e : Entry) h. ap (λ (b : Bool). b && fits e) (same_host_key e.0 c.args.host (All-contains IsEntry targets e c.self.invariant.entries h).0 c.requires))
    ∙ (sym (any_map entry_parts here targets)
    ∙ (ap (λ (sources : List Parts). list_any here sources) c.self.view_is
    ∙ under_direct host asked c.args.self.now c.if-asked.false)))
