use Rattle.std.proofs.Common.{◌≡◌, ◌++◌, drop}
use Rattle.std.specs.Prelude.{codes, string_bytes}
use Rattle.std.specs.List.{flat_map}
use Rattle.csp_proof.specs.Spelling.{line_text}
use Rattle.csp_proof.specs.declared.line.ProofLine.TheVariants as line
use Rattle.csp_proof.specs.declared.proof.Node.{Node}
use Rattle.csp_proof.proofs.print.push_nodes.Given as goal

-- what is written and what is left to write make up the text
abbrev pub invariant-loop-node : goal.invariant-loop-node
invariant-loop-node l =
    string_bytes l.text ++ flat_map (λ (n : Node). line_text (line.Node n) ++ codes "\n") (drop l.node-index l.nodes)
    ≡ string_bytes l.fn.text ++ flat_map (λ (n : Node). line_text (line.Node n) ++ codes "\n") l.nodes
