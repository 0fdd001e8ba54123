use Rattle.std.proofs.Common.{◌≡◌, take}
use Rattle.csp_order.proofs.trials.compile_all.Given as goal

abbrev pub invariant-loop-list : goal.invariant-loop-list
invariant-loop-list l = l.made.items ≡ take l.list-index l.lists
