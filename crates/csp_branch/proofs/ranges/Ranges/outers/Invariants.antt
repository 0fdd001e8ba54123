use Rattle.csp_branch.specs.Numbers.{AreOutersTo}
use Rattle.csp_branch.proofs.ranges.Ranges.outers.Given as goal

abbrev pub invariant-loop-name : goal.invariant-loop-name
invariant-loop-name l = AreOutersTo l.self l.outers.items l.name
