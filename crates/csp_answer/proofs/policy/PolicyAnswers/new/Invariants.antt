use Rattle.std.proofs.Common.{◌-◌}
use Rattle.csp_facts.specs.Numbers.{shape_count}
use Rattle.csp_answer.specs.Policies.{AllAnswered, SaysAt}
use Rattle.csp_answer.proofs.SoFar.{SoFar}
use Rattle.csp_answer.proofs.policy.PolicyAnswers.new.Given as goal

abbrev pub invariant-loop-shape : goal.invariant-loop-shape
invariant-loop-shape l =
    SoFar (SaysAt l.naming.names.now l.naming.pairs.now l.named.policy.now) l.answered.answers l.places l.number
    × AllAnswered l.naming.names.now l.naming.pairs.now l.named.policy.now l.answered

abbrev pub decreases-loop-shape : goal.decreases-loop-shape
decreases-loop-shape l = shape_count - l.number
