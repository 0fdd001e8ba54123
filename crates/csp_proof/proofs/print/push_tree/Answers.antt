use Rattle.csp_proof.proofs.LineTexts.{tree_pushed}
use Rattle.csp_proof.proofs.print.push_tree.Goals as goal

pub returns-in_ok-push_nodes-in-Nodes : goal.returns-in_ok-push_nodes-in-Nodes
unfolding lib.Utf8.encode
returns-in_ok-push_nodes-in-Nodes c =
    tree_pushed c.args.tree.now c.in-Nodes.nodes _ _ _ _ _ _ _ c.in-Nodes.is c.format.ensures.text c.format-2.ensures.text c.as_slice.ensures c.in_ok-push_three.ensures
    c.in_ok-push.ensures.bytes c.in_ok-push_nodes-in-Nodes.ensures
