use Rattle.std.proofs.Common.{◌≡◌, take, map}
use Rattle.csp_proof.specs.declared.proof.Tree.{Tree}
use Rattle.csp_checker.specs.Walk.{is_unmet_below}
use Rattle.csp_checker.proofs.making.unmet_of.Given as goal

abbrev pub invariant-loop-tree : goal.invariant-loop-tree
invariant-loop-tree l = l.unmet.items ≡ map (λ (tree : Tree). is_unmet_below tree.body) (take l.tree-index l.trees)
