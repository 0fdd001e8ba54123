use Rattle.csp_match.specs.Fronts.{AreOutersTo}
use Rattle.csp_match.proofs.fronts.outers_of.Given as goal

abbrev pub invariant-loop-at : goal.invariant-loop-at
invariant-loop-at l = AreOutersTo l.targets l.outers.items l.at
