use Rattle.std.proofs.Common.{◌≡◌, ◌++◌, drop}
use Rattle.std.specs.List.{flat_map}
use Rattle.csp_answer.specs.Naming.{source_atoms}
use Rattle.csp_answer.proofs.collecting.add_sources.Given as goal

abbrev pub invariant-loop-source : goal.invariant-loop-source
invariant-loop-source l = l.atoms ++ flat_map (source_atoms l.origin) (drop l.source-index l.sources) ≡ l.fn.atoms ++ flat_map (source_atoms l.origin) l.sources
