-- Each check of the request adds its need or its place, and the request is one more of the log.
use Rattle.std.proofs.Common.{arith, ap, ◌∙◌, ◌<◌, ◌≤◌, length, get_or, List}
use Rattle.csp_model.specs.declared.check.Check.{Check}
use Rattle.csp_learn.proofs.LogLaws.{more_needed, more_left, more_learnt}
use Rattle.csp_learn.proofs.learning.Learning.push.Goals as goal

pub loop-before-preserved : goal.loop-before-preserved
loop-before-preserved c =
    let checks = c.args.described.now.checks in
    let same = c.as_slice-check-items.ensures in
    let below : c.loop-before.before < length checks = omega (arith, ap length same) in
    let is = c.check-item.is ∙ ap (λ (xs : List Check). get_or xs c.loop-before.before c.check-item.result) same in (
      more_needed c.args.self.now.needs _ _ checks c.loop-before.before c.check-item.result below is c.loop-before.invariant.0
          c.in_ok-push_check.ensures.needs,
      more_left c.args.request c.args.self.now.left _ _ checks c.loop-before.before c.check-item.result below is c.loop-before.invariant.1
          c.in_ok-push_check.ensures.left,
    )

pub returns : goal.returns
returns c requests was number =
    let past : length c.args.described.now.checks ≤ c.loop-before.before = omega (arith, ap length c.as_slice-check-items.ensures) in
    more_learnt requests c.args.described.now c.args.self.now c.loop-before.self c.args.request c.loop-before.before past was number
    c.loop-before.invariant.0 c.loop-before.invariant.1
