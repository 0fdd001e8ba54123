use Rattle.std.proofs.Common.{◌≡◌, ◌++◌, drop}
use Rattle.csp_branch.specs.Sorting.{referred}
use Rattle.csp_checker.specs.Walk.{atoms_of}
use Rattle.csp_checker.proofs.making.push_atoms.Given as goal

abbrev pub invariant-loop-node : goal.invariant-loop-node
invariant-loop-node l = referred l.atoms.items ++ atoms_of (drop l.node-index l.nodes) ≡ referred l.fn.atoms.items ++ atoms_of l.nodes
