use Rattle.std.proofs.Common.{◌≡◌, ◌++◌, drop}
use Rattle.csp_branch.specs.Sorting.{referred}
use Rattle.csp_answer.proofs.collecting.add_others.Given as goal

abbrev pub invariant-loop-other : goal.invariant-loop-other
invariant-loop-other l = l.atoms ++ referred (drop l.other-index l.others) ≡ l.fn.atoms ++ referred l.others
