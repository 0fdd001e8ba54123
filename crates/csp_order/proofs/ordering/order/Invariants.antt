use Rattle.std.proofs.Common.{◌≡◌, [], length, map, take}
use Rattle.csp_order.specs.Pairs.{pairs}
use Rattle.csp_order.specs.Relations.{AreReasons, pair_of, proved}
use Rattle.csp_order.proofs.ordering.order.Given as goal

abbrev pub invariant-loop-pair : goal.invariant-loop-pair
invariant-loop-pair l = record {
  lists : l.known.lists ≡ l.lists;
  proved : l.known.proved ≡ proved l.relations;
  pairs : map pair_of l.relations ≡ take l.pair-index (pairs (length l.lists));
  reasons : AreReasons l.lists [] l.relations;
}
