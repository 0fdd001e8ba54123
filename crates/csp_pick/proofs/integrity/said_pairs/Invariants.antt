use Rattle.std.proofs.Common.{◌≡◌, ◌++◌, drop}
use Rattle.csp_pick.specs.Pairs.{pairs_in}
use Rattle.csp_pick.proofs.integrity.said_pairs.Given as goal

abbrev pub invariant-loop-literal : goal.invariant-loop-literal
invariant-loop-literal l = l.pairs ++ pairs_in (drop l.literal-index l.literals) ≡ pairs_in l.literals
