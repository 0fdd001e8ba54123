-- A reporter took its turn, or it stopped there.
use Rattle.std.proofs.Common.{◌<◌, length, arith, ap, refl, ◌∙◌, Err}
use Rattle.std.proofs.lemmas.List.{length-map}
use Rattle.csp_desk.proofs.Turns.{same-turn, NoneFell-turn, took-turn, stopped-turn, Rose-turn, MayRefuse-turn, StopsAt-refused}
use Rattle.csp_desk.proofs.desk.hand_each.Goals as goal

pub returns-in-Err-Refused-clause-same_kinds : goal.returns-in-Err-Refused-clause-same_kinds
returns-in-Err-Refused-clause-same_kinds g c =
    same-turn _ _ _ _ _ _ c.loop-place.invariant.same_kinds c.accept_by.ensures.same_kind

pub returns-in-Err-Refused-clause-same_may_refuse : goal.returns-in-Err-Refused-clause-same_may_refuse
returns-in-Err-Refused-clause-same_may_refuse g c =
    same-turn _ _ _ _ _ _ c.loop-place.invariant.same_may_refuse c.accept_by.ensures.same_may_refuse

pub returns-in-Err-Refused-clause-may : goal.returns-in-Err-Refused-clause-may
returns-in-Err-Refused-clause-may g c =
    let within : c.loop-place.place < length c.loop-place.desk = omega (arith, c.loop-place-test.true, c.loop-place.auto.desk) in
    MayRefuse-turn _ _ _ c.loop-place.place _ c.loop-place.invariant.same_may_refuse within
    (c.accept_by.ensures.may (c.in-Err-Refused.is ∙ ap Err c.in-Err-Refused.field-0-is))

pub returns-in-Err-Refused-clause-later : goal.returns-in-Err-Refused-clause-later
returns-in-Err-Refused-clause-later g c =
    let within : c.loop-place.place < length c.loop-place.desk = omega (arith, c.loop-place-test.true, c.loop-place.auto.desk) in
    NoneFell-turn _ _ _ _ _ _ c.loop-place.invariant.later within c.accept_by.ensures.later

pub returns-in-Err-Refused-clause-no_fault : goal.returns-in-Err-Refused-clause-no_fault
returns-in-Err-Refused-clause-no_fault g c none = absurd (none _ refl)

pub returns-in-Err-Refused-clause-stopped : goal.returns-in-Err-Refused-clause-stopped
returns-in-Err-Refused-clause-stopped g c =
    let within : c.loop-place.place < length c.loop-place.desk = omega (arith, c.loop-place-test.true, c.loop-place.auto.desk) in
    StopsAt-refused _ 0 c.loop-place.place _ _ _ _ (omega arith) (rw (length-map c.args.desk.now _) c.loop-place-test.true)
    (stopped-turn _ _ _ _ _ _ _ c.loop-place.invariant.took c.in-Err-Refused.ensures.refused)
    (Rose-turn _ _ _ _ _ _ c.loop-place.invariant.later within (c.accept_by.ensures.cause (c.in-Err-Refused.is ∙ ap Err c.in-Err-Refused.field-0-is)))

pub returns-in-Err-Memory-clause-same_kinds : goal.returns-in-Err-Memory-clause-same_kinds
returns-in-Err-Memory-clause-same_kinds g c =
    same-turn _ _ _ _ _ _ c.loop-place.invariant.same_kinds c.accept_by.ensures.same_kind

pub returns-in-Err-Memory-clause-same_may_refuse : goal.returns-in-Err-Memory-clause-same_may_refuse
returns-in-Err-Memory-clause-same_may_refuse g c =
    same-turn _ _ _ _ _ _ c.loop-place.invariant.same_may_refuse c.accept_by.ensures.same_may_refuse

pub returns-in-Err-Memory-clause-later : goal.returns-in-Err-Memory-clause-later
returns-in-Err-Memory-clause-later g c =
    let within : c.loop-place.place < length c.loop-place.desk = omega (arith, c.loop-place-test.true, c.loop-place.auto.desk) in
    NoneFell-turn _ _ _ _ _ _ c.loop-place.invariant.later within c.accept_by.ensures.later

pub returns-in-Err-Memory-clause-no_fault : goal.returns-in-Err-Memory-clause-no_fault
returns-in-Err-Memory-clause-no_fault g c none =
    same-turn _ _ _ _ _ _ c.loop-place.invariant.no_fault
    (c.accept_by.ensures.no_fault (λ refused. cc (refused, c.in-Err-Memory.is, c.in-Err-Memory.field-0-is)))

pub returns-in-Err-Memory-clause-stopped : goal.returns-in-Err-Memory-clause-stopped
returns-in-Err-Memory-clause-stopped g c = (
  0,
  c.loop-place.place,
  omega arith,
  rw (length-map c.args.desk.now _) c.loop-place-test.true,
  stopped-turn _ _ _ _ _ _ _ c.loop-place.invariant.took c.in-Err-Memory.ensures.refused,
)

pub loop-place-preserved : goal.loop-place-preserved
loop-place-preserved g c =
    let within : c.loop-place.place < length c.loop-place.desk = omega (arith, c.loop-place-test.true, c.loop-place.auto.desk) in
    record {
      same_kinds = same-turn _ _ _ _ _ _ c.loop-place.invariant.same_kinds c.accept_by.ensures.same_kind;
      same_may_refuse =
          same-turn _ _ _ _ _ _ c.loop-place.invariant.same_may_refuse c.accept_by.ensures.same_may_refuse;
      later = NoneFell-turn _ _ _ _ _ _ c.loop-place.invariant.later within c.accept_by.ensures.later;
      no_fault = same-turn _ _ _ _ _ _ c.loop-place.invariant.no_fault (c.accept_by.ensures.no_fault (λ refused. cc (refused, c.in-Ok.is)));
      took = took-turn _ _ _ _ _ _ _ c.loop-place.invariant.took within c.loop-place.auto.desk c.in-Ok.ensures.took;
    }
