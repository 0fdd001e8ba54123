-- A violation took its turn, or handing it out stopped.
use Rattle.std.proofs.Common.{refl, sym, ◌∙◌, length, drop, arith}
use Rattle.std.proofs.lemmas.Result.{err_from_is_err_and}
use Rattle.csp_desk.proofs.GrowthLaws.{all_grown-nil, NoneFell-trans}
use Rattle.csp_desk.proofs.Turns.{all_grown-turn, MayRefuse-same, StopsAt-turn, take-whole}
use Rattle.csp_desk.proofs.desk.hand_out.Goals as goal

pub loop-violation-init : goal.loop-violation-init
loop-violation-init g c = record {
  same_kinds = refl;
  same_may_refuse = refl;
  later = λ k. omega arith;
  no_fault = refl;
  took = sym (all_grown-nil _);
}

pub returns-in_err-hand_each-clause-stopped : goal.returns-in_err-hand_each-clause-stopped
returns-in_err-hand_each-clause-stopped g c =
    let p = err_from_is_err_and c.from_residual.result c.from_residual.ensures.1 in
    let whole = take-whole c.loop-violation.desk.len c.hand_each.new.desk (drop (length c.hand_each.new.desk) c.loop-violation.desk.items) (c.hand_each.auto.desk ∙ c.as_mut_slice.ensures.len) in
    let stops = rw c.as_mut_slice.ensures.value at c.in_err-hand_each.ensures.stopped in
    rw (p.1, p.2, ← c.as_slice-violation-items.ensures, whole)
    (StopsAt-turn _ _ c.loop-violation.violation-index _ _ _ _ _ _ _ c.loop-violation-test.true c.violation-item.is c.loop-violation.invariant.took c.loop-violation.invariant.later stops)

pub returns-in_err-hand_each-clause-may : goal.returns-in_err-hand_each-clause-may
returns-in_err-hand_each-clause-may g c =
    let p = err_from_is_err_and c.from_residual.result c.from_residual.ensures.1 in
    let may = rw c.as_mut_slice.ensures.value at c.in_err-hand_each.ensures.may in
    rw (p.1, p.2) (MayRefuse-same _ _ _ c.loop-violation.invariant.same_may_refuse may)

pub loop-violation-preserved : goal.loop-violation-preserved
loop-violation-preserved g c =
    let whole = take-whole c.loop-violation.desk.len c.hand_each.new.desk (drop (length c.hand_each.new.desk) c.loop-violation.desk.items) (c.hand_each.auto.desk ∙ c.as_mut_slice.ensures.len) in
    let kinds = rw c.as_mut_slice.ensures.value at c.in_ok-hand_each.ensures.same_kinds in
    let may = rw c.as_mut_slice.ensures.value at c.in_ok-hand_each.ensures.same_may_refuse in
    let later = rw c.as_mut_slice.ensures.value at c.in_ok-hand_each.ensures.later in
    let none = rw c.as_mut_slice.ensures.value at (c.hand_each.ensures.no_fault (λ n refused. cc (refused, c.in_ok-hand_each.is))) in
    let took = rw c.as_mut_slice.ensures.value at c.in_ok-hand_each.ensures.took in
    rw whole (record {
      same_kinds = kinds ∙ c.loop-violation.invariant.same_kinds;
      same_may_refuse = may ∙ c.loop-violation.invariant.same_may_refuse;
      later = NoneFell-trans _ _ _ c.loop-violation.invariant.later later;
      no_fault = none ∙ c.loop-violation.invariant.no_fault;
      took = all_grown-turn _ c.loop-violation.violation-index _ _ _ _ c.loop-violation-test.true c.violation-item.is c.loop-violation.invariant.took took;
    })
