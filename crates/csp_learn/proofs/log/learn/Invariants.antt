use Rattle.std.proofs.Common.{◌≡◌, take}
use Rattle.csp_learn.specs.Logs.{lesson_of}
use Rattle.csp_learn.proofs.log.learn.Given as goal

abbrev pub invariant-loop-described : goal.invariant-loop-described
invariant-loop-described l =
    (l.learning ≡ lesson_of (take l.described-index l.descriptions)) × (l.request ≡ l.described-index)
