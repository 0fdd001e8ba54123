use Rattle.std.proofs.Common.{◌≡◌, drop, map}
use Rattle.csp_formula.specs.Sentences.{all_of, any_of}
use Rattle.csp_formulas.specs.Formulas.{sentence_of}
use Rattle.csp_formula.specs.Surely.{surely, maybe_and, maybe_or}
use Rattle.csp_formulas.proofs.deciding.+value_by.Given as goal

abbrev pub invariant-every : goal.invariant-every
invariant-every l =
    maybe_and l.so_far (surely l.literals (all_of (map sentence_of (drop l.part-index l.part-items)))) ≡ surely l.literals (sentence_of l.formula)

abbrev pub invariant-one : goal.invariant-one
invariant-one l =
    maybe_or l.so_far (surely l.literals (any_of (map sentence_of (drop l.part-index l.part-items)))) ≡ surely l.literals (sentence_of l.formula)
