use Rattle.std.proofs.Common.{◌∙◌, sym, ap}
use Rattle.std.specs.Cmp.Lexicographic.{pointwise_decides}
use Rattle.csp_proof.specs.declared.proof.Body.TheVariants.{Nodes}
use Rattle.csp_compare.proofs.NodesSame.{node_decides}
use Rattle.csp_compare.proofs.draft.has_own.Goals as goal

pub returns-in-Nodes : goal.returns-in-Nodes
returns-in-Nodes c =
    let decides = pointwise_decides node_decides c.in-Nodes.own c.args.nodes.now in
    (λ same. c.in-Nodes.is ∙ ap Nodes (decides.0 (sym c.eq.ensures ∙ same)), λ is. c.eq.ensures ∙ decides.1 (cc (c.in-Nodes.is, is)))
