use Rattle.csp_branch.specs.Numbers.{AreEndsFrom}
use Rattle.csp_branch.proofs.ranges.ends_of.Given as goal

abbrev pub invariant-loop-number : goal.invariant-loop-number
invariant-loop-number l = AreEndsFrom l.atoms l.ends.items l.number
