use Rattle.std.proofs.Common.{◌≡◌, ◌+◌, ◌-◌, false, length}
use Rattle.csp_order.specs.Pairs.{list_limit}
use Rattle.csp_order.specs.Ways.{AreWays, is_reached}
use Rattle.csp_order.proofs.chain.chain.Given as goal

abbrev pub invariant-loop-way : goal.invariant-loop-way
invariant-loop-way l = record {
  ways : AreWays l.pairs l.ends.first l.ways.items;
  unreached : is_reached l.ways.items l.ends.second ≡ false;
}

abbrev pub decreases-loop-way : goal.decreases-loop-way
decreases-loop-way l = list_limit + 1 - length l.ways.items
