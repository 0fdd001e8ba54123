use Rattle.std.proofs.Common.{◌≡◌, drop}
use Rattle.csp_formula.specs.Surely.{maybe_or, surely}
use Rattle.csp_answer.specs.Answers.{disjunction_in}
use Rattle.csp_answer.proofs.deciding.some_of.Given as goal

abbrev pub invariant-loop-conjunction : goal.invariant-loop-conjunction
invariant-loop-conjunction l =
    maybe_or l.known (surely l.branch.literals (disjunction_in l.branch.atoms (drop l.conjunction-index l.conjunctions)))
    ≡ surely l.branch.literals (disjunction_in l.branch.atoms l.conjunctions)
