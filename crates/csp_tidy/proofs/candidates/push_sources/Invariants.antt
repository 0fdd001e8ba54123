use Rattle.std.proofs.Common.{◌≡◌, ◌++◌, drop}
use Rattle.csp_tidy.specs.Candidates.{source_candidates}
use Rattle.csp_tidy.proofs.candidates.push_sources.Given as goal

abbrev pub invariant-loop-source : goal.invariant-loop-source
invariant-loop-source l =
    (l.number ≡ l.source-index)
    × (l.places.items ++ source_candidates l.policy l.directive l.number (drop l.source-index l.sources)
    ≡ l.fn.places.items ++ source_candidates l.policy l.directive 0 l.sources)
