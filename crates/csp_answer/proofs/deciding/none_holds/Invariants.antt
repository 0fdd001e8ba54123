use Rattle.std.proofs.Common.{◌≡◌, drop, map}
use Rattle.csp_formula.specs.Sentences.{all_of}
use Rattle.csp_formula.specs.Surely.{maybe_and, surely}
use Rattle.csp_answer.specs.Answers.{denial_in}
use Rattle.csp_answer.proofs.deciding.none_holds.Given as goal

abbrev pub invariant-loop-name : goal.invariant-loop-name
invariant-loop-name l =
    maybe_and l.known (surely l.branch.literals (all_of (map (denial_in l.branch.atoms) (drop l.name-index l.names))))
    ≡ surely l.branch.literals (all_of (map (denial_in l.branch.atoms) l.names))
