use Rattle.std.proofs.Common.{◌<◌, ap, arith, length}
use Rattle.csp_tidy.specs.Candidates.{policy_without}
use Rattle.csp_tidy.proofs.Changes.{all_taken, front_changed, front_kept}
use Rattle.csp_tidy.proofs.without.without.Goals as goal
use Rattle.csp_tidy.proofs.without.without.Goals.{then-number-place+in_ok-policy_without, else-number-place+in_ok-copy}

pub loop-number-preserved : goal.loop-number-preserved
loop-number-preserved c =
    let whole = ap length c.as_slice-policy-items.ensures in
    let within : c.loop-number.number < length c.args.list.now.policies = omega (arith, whole, c.loop-number-test.true) in
    elim c.if-number-place.branch [
      | then-number-place+in_ok-policy_without w ↦
          let front = front_changed (policy_without c.args.place.directive c.args.place.token) c.args.place.policy c.loop-number.number c.args.list.now.policies c.policy-item.result within w.if-number-place.true in
          cc (c.in_ok-push.ensures.ok, c.loop-number.invariant, w.push-is, w.in_ok-policy_without.ensures, c.policy-item.is, c.as_slice-policy-items.ensures, front)
      | else-number-place+in_ok-copy w ↦
          let front = front_kept (policy_without c.args.place.directive c.args.place.token) c.args.place.policy c.loop-number.number c.args.list.now.policies c.policy-item.result within w.if-number-place.false in
          cc (c.in_ok-push.ensures.ok, c.loop-number.invariant, w.push-is, w.in_ok-copy.ensures, c.policy-item.is, c.as_slice-policy-items.ensures, front)
    ]

pub returns : goal.returns
returns c =
    let ps = c.args.list.now.policies in
    let whole = ap length c.as_slice-policy-items.ensures in
    let all = all_taken (policy_without c.args.place.directive c.args.place.token) c.args.place.policy c.loop-number.number ps (omega (arith, whole, c.loop-number-test.false)) in
    cc (c.loop-number.invariant, all)
