use Rattle.std.proofs.Common.{◌≡◌, drop, map}
use Rattle.csp_formula.specs.Sentences.{any_of}
use Rattle.csp_formula.specs.Surely.{maybe_or, surely}
use Rattle.csp_answer.specs.Answers.{name_in}
use Rattle.csp_answer.proofs.deciding.one_holds.Given as goal

abbrev pub invariant-loop-name : goal.invariant-loop-name
invariant-loop-name l =
    maybe_or l.known (surely l.branch.literals (any_of (map (name_in l.branch.atoms) (drop l.name-index l.names))))
    ≡ surely l.branch.literals (any_of (map (name_in l.branch.atoms) l.names))
