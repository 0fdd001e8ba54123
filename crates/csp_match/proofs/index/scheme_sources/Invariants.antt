use Rattle.std.proofs.Common.{◌≡◌, map, take}
use Rattle.csp_match.specs.Split.{scheme_parts}
use Rattle.csp_match.proofs.index.scheme_sources.Given as goal

abbrev pub invariant-loop-source : goal.invariant-loop-source
invariant-loop-source l = map (λ t. t.now) l.made.items ≡ scheme_parts (take l.source-index l.sources)
