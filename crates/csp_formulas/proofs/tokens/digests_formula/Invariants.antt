use Rattle.std.proofs.Common.{◌≡◌, ◌++◌, drop, map}
use Rattle.std.specs.List.{filter_map}
use Rattle.csp_formulas.specs.Formulas.{sentence_of}
use Rattle.csp_formula.specs.Compiled.{digest_fact}
use Rattle.csp_formulas.proofs.tokens.digests_formula.Given as goal

abbrev pub invariant-loop-source : goal.invariant-loop-source
invariant-loop-source l =
    map sentence_of l.parts.items ++ filter_map digest_fact (drop l.source-index l.sources) ≡ filter_map digest_fact l.sources
