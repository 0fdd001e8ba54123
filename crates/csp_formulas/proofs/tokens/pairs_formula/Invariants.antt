use Rattle.std.proofs.Common.{◌≡◌, ◌++◌, drop, map}
use Rattle.std.specs.List.{filter_map}
use Rattle.csp_facts.specs.Vocabulary.{hash_of_source}
use Rattle.csp_formulas.specs.Formulas.{sentence_of}
use Rattle.csp_formula.specs.Compiled.{has_pair}
use Rattle.csp_formulas.proofs.tokens.pairs_formula.Given as goal

abbrev pub invariant-loop-source : goal.invariant-loop-source
invariant-loop-source l =
    map sentence_of l.parts.items ++ map has_pair (filter_map hash_of_source (drop l.source-index l.sources)) ≡ map has_pair (filter_map hash_of_source l.sources)
