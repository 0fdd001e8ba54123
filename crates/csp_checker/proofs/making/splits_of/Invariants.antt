use Rattle.std.proofs.Common.{◌≡◌, ◌≤◌, ◌++◌, drop, take, length, All}
use Rattle.csp_branch.specs.Sorting.{referred}
use Rattle.csp_proof.specs.declared.proof.Tree.{Tree}
use Rattle.csp_checker.specs.Walk.{atoms_below}
use Rattle.csp_checker.proofs.Splits.{atoms_in}
use Rattle.csp_checker.proofs.making.splits_of.Given as goal

abbrev pub invariant-loop-tree : goal.invariant-loop-tree
invariant-loop-tree l = record {
  atoms : referred l.atoms.items ++ atoms_in (drop l.tree-index l.trees) ≡ atoms_in l.trees;
  most : All (λ (tree : Tree). length (atoms_below tree.body) ≤ l.most) (take l.tree-index l.trees);
}
