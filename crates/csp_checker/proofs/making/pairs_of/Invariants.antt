use Rattle.std.proofs.Common.{◌≡◌}
use Rattle.std.specs.List.{flat_map, range_with_len}
use Rattle.csp_proof.specs.Pairs.{enforced}
use Rattle.csp_checker.proofs.PairsMade.{row}
use Rattle.csp_checker.proofs.making.pairs_of.Given as goal

abbrev pub invariant-loop-shape : goal.invariant-loop-shape
invariant-loop-shape l = l.pairs.items ≡ flat_map (row (enforced l.second)) (range_with_len 0 l.shape)
