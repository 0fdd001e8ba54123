use Rattle.std.proofs.Common.{ap, subst, ◌∙◌}
use Rattle.csp_model.specs.declared.policy.PolicyList.{PolicyList}
use Rattle.csp_embed.specs.Decisions.{IsDecision}
use Rattle.csp_embed.specs.declared.decision.Decision.{Decision}
use Rattle.csp_output.specs.Comparisons.{difference_text}
use Rattle.csp_output.proofs.Embedded.{added_is, ok_map, refused_is, served_is}
use Rattle.csp_output.proofs.embed_output.embed.Goals as goal

pub returns-in-Added : goal.returns-in-Added
returns-in-Added c =
    let decision = subst (λ (d : Decision). IsDecision c.in_ok-allowed.allowed c.args.required.now c.args.response.list.now d)
    c.in-Added.is c.in_ok-decide.ensures.decision in
    ok_map c.added_output.result
    (added_is c.in_ok-allowed.allowed c.args.embedder.now c.args.required.now c.args.response.block.now
    c.args.response.list.now _ c.in_ok-allowed.ensures decision)
    c.added_output.ensures

pub returns-in-Served : goal.returns-in-Served
returns-in-Served c =
    let decision = subst (λ (d : Decision). IsDecision c.in_ok-allowed.allowed c.args.required.now c.args.response.list.now d)
    c.in-Served.is c.in_ok-decide.ensures.decision in
    ok_map c.under_word.result
    (served_is c.in_ok-allowed.allowed c.args.embedder.now c.args.required.now c.args.response.block.now
    c.args.response.list.now c.in-Served.proof c.in_ok-text-in-Served.text c.in_ok-allowed.ensures decision
    (λ formed. record { formed = formed; spelled = c.in_ok-text-in-Served.ensures }))
    c.under_word.ensures

pub returns : goal.returns
returns c =
    let decision = subst (λ (d : Decision). IsDecision c.in_ok-allowed.allowed c.args.required.now c.args.response.list.now d)
    c.in-Refused.is c.in_ok-decide.ensures.decision in
    let asked = c.in-Refused.check in
    ok_map c.under_word-in-Refused.result
    (refused_is c.in_ok-allowed.allowed c.args.embedder.now c.args.required.now c.args.response.block.now
    c.args.response.list.now asked c.in_ok-text-in-Refused.text c.in_ok-allowed.ensures decision
    c.in_ok-text-in-Refused.ensures.read_back
    (c.in_ok-text-in-Refused.ensures.text ∙ ap (λ (list : PolicyList). difference_text list asked) c.in_ok-required-in-Refused.ensures))
    c.under_word-in-Refused.ensures
