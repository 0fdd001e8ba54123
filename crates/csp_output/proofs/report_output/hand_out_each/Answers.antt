-- The violations of one request were handed out, or handing out stopped.
use Rattle.std.proofs.Common.{refl, sym, ◌∙◌, arith}
use Rattle.std.proofs.lemmas.Result.{err_from_is_err_and}
use Rattle.csp_desk.proofs.GrowthLaws.{all_grown-nil, NoneFell-trans}
use Rattle.csp_model.specs.Verdict.{violations_of}
use Rattle.csp_output.proofs.Handing.{ok_is_no_error, taken_more, taken_so_far, stopped_at}
use Rattle.csp_output.proofs.report_output.hand_out_each.Goals as goal

pub loop-request-init : goal.loop-request-init
loop-request-init g c = record {
  took = sym (all_grown-nil _);
  no_fault = refl;
  kept = record { kinds = refl; may_refuse = refl; later = λ k. omega arith };
}

pub returns-in_default-clause-stopped : goal.returns-in_default-clause-stopped
returns-in_default-clause-stopped g c =
    taken_so_far (violations_of c.args.list.now) c.args.requests.now c.loop-request.request-index _ _
    c.loop-request.invariant.took

pub returns-in_err-hand_out-clause-stopped : goal.returns-in_err-hand_out-clause-stopped
returns-in_err-hand_out-clause-stopped g c =
    let p = err_from_is_err_and c.from_residual.result c.from_residual.ensures.1 in
    let stops = rw c.in-Ok.ensures.violations at c.in_err-hand_out.ensures.stopped in
    rw (p.1, p.2)
    (stopped_at (violations_of c.args.list.now) c.args.requests.now c.loop-request.request-index _ _ _ _ _ _
    c.loop-request-test.true c.request-item.is c.loop-request.invariant.took c.loop-request.invariant.kept.later
    c.loop-request.invariant.kept.may_refuse stops c.in_err-hand_out.ensures.may)

pub loop-request-preserved : goal.loop-request-preserved
loop-request-preserved g c =
    let took = rw c.in-Ok.ensures.violations at c.in_ok-hand_out.ensures.took in
    record {
      took =
          taken_more (violations_of c.args.list.now) c.args.requests.now c.loop-request.request-index _ _ _ _
          c.loop-request-test.true c.request-item.is c.loop-request.invariant.took took;
      no_fault =
          c.hand_out.ensures.no_fault (λ n refused. ok_is_no_error _ _ _ c.in_ok-hand_out.was refused)
          ∙ c.loop-request.invariant.no_fault;
      kept = record {
        kinds = c.in_ok-hand_out.ensures.same_kinds ∙ c.loop-request.invariant.kept.kinds;
        may_refuse = c.in_ok-hand_out.ensures.same_may_refuse ∙ c.loop-request.invariant.kept.may_refuse;
        later = NoneFell-trans _ _ _ c.loop-request.invariant.kept.later c.in_ok-hand_out.ensures.later;
      };
    }

pub returns-in_err-hand_out-clause-kept : goal.returns-in_err-hand_out-clause-kept
returns-in_err-hand_out-clause-kept g c = record {
  kinds = c.in_err-hand_out.ensures.same_kinds ∙ c.loop-request.invariant.kept.kinds;
  may_refuse = c.in_err-hand_out.ensures.same_may_refuse ∙ c.loop-request.invariant.kept.may_refuse;
  later = NoneFell-trans _ _ _ c.loop-request.invariant.kept.later c.in_err-hand_out.ensures.later;
}
