use Rattle.std.proofs.Common.{◌≡◌, ◌++◌, take}
use Rattle.csp_checker.proofs.PairsMade.{row}
use Rattle.csp_checker.proofs.making.push_pairs.Given as goal

abbrev pub invariant-loop-policy : goal.invariant-loop-policy
invariant-loop-policy l = l.pairs.items ≡ l.fn.pairs.items ++ row (take l.policy-index l.enforced) l.shape
