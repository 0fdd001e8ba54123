use Rattle.std.proofs.Common.{arith, ap, length}
use Rattle.std.proofs.lemmas.List.{length_push}
use Rattle.std.proofs.lemmas.Result.{err_from_is_err_and}
use Rattle.csp_proof.specs.Places.{place_lines}
use Rattle.csp_proof.proofs.Ends.{stuck_refused, so_far_more, proof_ended, bad_ended, only_proof}
use Rattle.csp_proof.proofs.Steps.{reached}
use Rattle.csp_proof.proofs.read.read_proof.Goals as goal

pub returns-in_err-place-clause-bad : goal.returns-in_err-place-clause-bad
returns-in_err-place-clause-bad c =
    let p = err_from_is_err_and c.from_residual.result c.from_residual.ensures.1 in
    rw (p.1, p.2) (stuck_refused c.args.bytes.now c.loop-text.rest.now c.in-Some.text.now c.in-Some.behind.now c.loop-text.place c.loop-text.number _
    c.loop-text.invariant.reached c.loop-text.invariant.number c.loop-text.invariant.text c.in-Some.ensures.parts c.in_err-place.ensures.bad)

pub loop-text-preserved : goal.loop-text-preserved
loop-text-preserved c =
    let leads = c.in_ok-place.ensures.ok in
    let next = reached c.loop-text.number c.loop-text.place c.in_ok-place.place leads.0 c.loop-text.invariant.reached leads.1 c.loop-text.invariant.number leads.3 in
    let before = c.loop-text.invariant in
    record {
      reached = next.0;
      number = let e = ap length next.1 in let n = length_push (place_lines c.loop-text.place) leads.0 in let m = before.number in omega arith;
      text = so_far_more c.args.bytes.now c.loop-text.rest.now c.in-Some.text.now c.in-Some.behind.now c.loop-text.place c.in_ok-place.place leads.0 before.text c.in-Some.ensures.parts leads.2 next.1;
      branches = let b = c.in_ok-place.ensures.branches in let m = before.branches in omega arith;
      size = let s = c.in-Some.ensures.shorter in let m = before.size in omega arith;
    }

pub returns-clause-proof : goal.returns-clause-proof
returns-clause-proof c =
    proof_ended c.args.bytes.now c.loop-text.rest.now c.loop-text.place c.loop-text.number c.whole_proof.result c.loop-text.invariant.reached c.loop-text.invariant.text
    c.in_default.ensures.parts c.whole_proof.ensures

pub returns-clause-bad : goal.returns-clause-bad
returns-clause-bad c =
    bad_ended c.args.bytes.now c.loop-text.rest.now c.loop-text.place c.loop-text.number c.whole_proof.result c.loop-text.invariant.reached c.loop-text.invariant.number c.loop-text.invariant.text
    c.in_default.ensures.parts c.whole_proof.ensures

pub returns-in_err-place-clause-only : goal.returns-in_err-place-clause-only
returns-in_err-place-clause-only c =
    let p = err_from_is_err_and c.from_residual.result c.from_residual.ensures.1 in
    only_proof c.args.bytes.now c.from_residual.result (rw p.1 tt) (returns-in_err-place-clause-bad c)

pub returns-clause-only : goal.returns-clause-only
returns-clause-only c = only_proof c.args.bytes.now c.whole_proof.result (returns-clause-proof c) (returns-clause-bad c)
