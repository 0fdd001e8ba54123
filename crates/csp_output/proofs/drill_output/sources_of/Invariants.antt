use Rattle.std.proofs.Common.{◌≡◌, map, take}
use Rattle.csp_model.specs.Reading.{source_of}
use Rattle.csp_output.proofs.drill_output.sources_of.Given as goal

abbrev pub invariant-loop-token : goal.invariant-loop-token
invariant-loop-token l = l.sources ≡ map source_of (take l.token-index l.tokens)
