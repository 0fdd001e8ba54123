use Rattle.std.proofs.Common.{◌≡◌, ◌++◌}
use Rattle.csp_order.proofs.PairsListed.{row_below, rows_below}
use Rattle.csp_order.proofs.pair.pairs.Given as goal

abbrev pub invariant-loop-second : goal.invariant-loop-second
invariant-loop-second l = l.made.items ≡ rows_below l.count l.first ++ row_below l.first l.second

abbrev pub invariant-loop-first : goal.invariant-loop-first
invariant-loop-first l = l.made.items ≡ rows_below l.count l.first
