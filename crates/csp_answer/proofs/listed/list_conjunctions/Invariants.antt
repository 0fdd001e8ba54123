use Rattle.std.proofs.Common.{length, map, take}
use Rattle.csp_formula.specs.Sentences.{any_of}
use Rattle.csp_formula.specs.Sources.{source_sentence}
use Rattle.csp_answer.specs.Asking.{AmountTo}
use Rattle.csp_answer.proofs.listed.list_conjunctions.Given as goal

abbrev pub invariant-loop-source : goal.invariant-loop-source
invariant-loop-source l =
    AmountTo l.names (any_of (map (source_sentence l.list.origin.now l.shape) (take (length l.yielded) l.list.sources.now))) l.conjunctions.items
