use Rattle.std.proofs.Common.{◌≡◌, ◌++◌, drop}
use Rattle.std.specs.Prelude.{string_bytes}
use Rattle.std.specs.List.{flat_map}
use Rattle.csp_proof.specs.Spelling.{lines_text, tree_lines}
use Rattle.csp_proof.specs.declared.proof.Tree.{Tree}
use Rattle.csp_proof.proofs.print.push_trees.Given as goal

-- what is written and what is left to write make up the text
abbrev pub invariant-loop-tree : goal.invariant-loop-tree
invariant-loop-tree l =
    string_bytes l.text ++ flat_map (λ (t : Tree). lines_text (tree_lines t)) (drop l.tree-index l.trees)
    ≡ string_bytes l.fn.text ++ flat_map (λ (t : Tree). lines_text (tree_lines t)) l.trees
