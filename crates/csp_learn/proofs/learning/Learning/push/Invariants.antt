use Rattle.std.proofs.Common.{◌≡◌, ◌++◌, fold, take}
use Rattle.csp_learn.specs.Logs.{left_in}
use Rattle.csp_learn.specs.Needs.{need_of, with_need}
use Rattle.csp_learn.proofs.learning.Learning.push.Given as goal

abbrev pub invariant-loop-before : goal.invariant-loop-before
invariant-loop-before l =
    (l.self.needs ≡ fold (λ needs asked. with_need needs (need_of asked)) l.initial.self.needs (take l.before l.described.checks))
    × (l.self.left ≡ l.initial.self.left ++ left_in l.request 1 (take l.before l.described.checks))
