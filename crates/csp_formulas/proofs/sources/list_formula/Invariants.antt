use Rattle.std.proofs.Common.{◌≡◌, ◌++◌, drop, map}
use Rattle.csp_formulas.specs.Formulas.{sentence_of}
use Rattle.csp_formula.specs.Sources.{source_sentence}
use Rattle.csp_formulas.proofs.sources.list_formula.Given as goal

abbrev pub invariant-loop-source : goal.invariant-loop-source
invariant-loop-source l =
    map sentence_of l.parts.items ++ map (source_sentence l.origin l.shape) (drop l.source-index l.sources) ≡ map (source_sentence l.origin l.shape) l.sources
