use Rattle.std.proofs.Common.{◌<◌, ap, arith, length}
use Rattle.csp_tidy.specs.Candidates.{directive_without}
use Rattle.csp_tidy.proofs.Changes.{all_taken, front_changed, front_kept}
use Rattle.csp_tidy.proofs.without.policy_without.Goals as goal
use Rattle.csp_tidy.proofs.without.policy_without.Goals.{then-number-place+in_ok-directive_without, else-number-place+in_ok-copy}

pub loop-number-preserved : goal.loop-number-preserved
loop-number-preserved c =
    let whole = ap length c.as_slice-directive-items.ensures in
    let within : c.loop-number.number < length c.args.policy.now.directives = omega (arith, whole, c.loop-number-test.true) in
    elim c.if-number-place.branch [
      | then-number-place+in_ok-directive_without w ↦
          let front = front_changed (directive_without c.args.token) c.args.place c.loop-number.number c.args.policy.now.directives c.directive-item.result within w.if-number-place.true in
          cc (c.in_ok-push.ensures.ok, c.loop-number.invariant, w.push-is, w.in_ok-directive_without.ensures, c.directive-item.is, c.as_slice-directive-items.ensures, front)
      | else-number-place+in_ok-copy w ↦
          let front = front_kept (directive_without c.args.token) c.args.place c.loop-number.number c.args.policy.now.directives c.directive-item.result within w.if-number-place.false in
          cc (c.in_ok-push.ensures.ok, c.loop-number.invariant, w.push-is, w.in_ok-copy.ensures, c.directive-item.is, c.as_slice-directive-items.ensures, front)
    ]

pub returns : goal.returns
returns c =
    let ds = c.args.policy.now.directives in
    let whole = ap length c.as_slice-directive-items.ensures in
    let all = all_taken (directive_without c.args.token) c.args.place c.loop-number.number ds (omega (arith, whole, c.loop-number-test.false)) in
    cc (c.in_ok-copy-2.ensures, c.loop-number.invariant, all)
