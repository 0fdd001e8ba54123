use Rattle.std.proofs.Common.{◌+◌, sym, subst, take, Contains}
use Rattle.csp_model.specs.declared.policy.Policy.{Policy}
use Rattle.csp_answer.specs.Naming.{policy_atoms}
use Rattle.csp_answer.specs.Tables.{AreAnswers, IsAnswered}
use Rattle.csp_answer.proofs.Pieces.{in_flat_map}
use Rattle.csp_answer.proofs.SameKinds.{one_policy}
use Rattle.csp_answer.proofs.table.answers_of_each.Goals as goal

pub new-requires : goal.new-requires
new-requires c =
    in_flat_map (Contains c.args.naming.names.now) policy_atoms c.args.policies.now c.loop-policy.policy-index c.policy-item.result c.loop-policy-test.true c.policy-item.is c.requires

pub loop-policy-preserved : goal.loop-policy-preserved
loop-policy-preserved c hashes are =
    let atoms = c.args.naming.names.now in
    let policies = c.args.policies.now in
    let i = c.loop-policy.policy-index in
    let answered = subst (λ (p : Policy). IsAnswered atoms hashes p c.in_ok-new.field-0) c.in_ok-named.ensures.policy (c.in_ok-new.ensures hashes are) in
    subst (AreAnswers atoms hashes (take (i + 1) policies)) (sym c.in_ok-push.ensures.ok)
    (one_policy atoms hashes policies i c.policy-item.result c.loop-policy.made c.in_ok-new.field-0 c.loop-policy-test.true c.policy-item.is
    (c.loop-policy.invariant hashes are) answered)
