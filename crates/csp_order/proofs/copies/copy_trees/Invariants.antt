use Rattle.std.proofs.Common.{◌≡◌, take}
use Rattle.csp_order.proofs.copies.copy_trees.Given as goal

abbrev pub invariant-loop-tree : goal.invariant-loop-tree
invariant-loop-tree l = l.made.items ≡ take l.tree-index l.trees
