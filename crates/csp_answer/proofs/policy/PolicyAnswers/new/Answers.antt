use Rattle.csp_answer.specs.Policies.{SaysAt}
use Rattle.csp_answer.proofs.SoFar.{more}
use Rattle.csp_answer.proofs.policy.PolicyAnswers.new.Goals as goal

pub loop-shape-preserved : goal.loop-shape-preserved
loop-shape-preserved c =
    let longer = more (SaysAt c.args.naming.names.now c.args.naming.pairs.now c.args.named.now.policy.now)
    c.loop-shape.answered.answers c.place_at.new.answered.answers c.loop-shape.places c.push.new.self c.in_ok-place.place c.loop-shape.number
    c.in-Some.shape c.each_number_is_one_shape.ensures.one c.loop-shape.invariant.0 c.in-Some.ensures.0 c.in-Some.ensures.1
    c.in_ok-place.ensures.extends c.in_ok-place.ensures.here c.in_ok-push.ensures.ok in
    (longer, c.in_ok-place.ensures.stand)
