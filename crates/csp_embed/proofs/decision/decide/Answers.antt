use Rattle.std.proofs.Common.{true, false, subst}
use Rattle.csp_model.specs.declared.policy.PolicyList.{PolicyList}
use Rattle.csp_compare.specs.Answers.{IsAnswer}
use Rattle.csp_compare.specs.declared.comparing.Answer.{Answer}
use Rattle.csp_compare.specs.declared.comparing.Answer.TheVariants.{Subsumed}
use Rattle.csp_embed.specs.declared.decision.Decision.TheVariants.{Added, Served}
use Rattle.csp_embed.proofs.decision.decide.Goals as goal

pub returns-then-allowed-clause-upheld : goal.returns-then-allowed-clause-upheld
returns-then-allowed-clause-upheld c =
    c.what_is_enforced_upholds_the_requirement.ensures true c.args.required.now c.args.response.now
    (Added c.in_ok-list.list) c.requires.enforced c.in_ok-list.ensures

pub returns-in-Subsumed-clause-upheld : goal.returns-in-Subsumed-clause-upheld
returns-in-Subsumed-clause-upheld c =
    let answer = subst (λ (a : Answer). IsAnswer c.args.response.now c.in_ok-required.required a)
    c.in-Subsumed.is c.in_ok-proof.ensures in
    c.what_is_enforced_upholds_the_requirement.ensures false c.args.required.now c.args.response.now
    (Served c.in-Subsumed.proof) c.requires.enforced
    (subst (λ (list : PolicyList). IsAnswer c.args.response.now list (Subsumed c.in-Subsumed.proof))
    c.in_ok-required.ensures answer)
