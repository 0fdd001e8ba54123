use Rattle.csp_answer.proofs.SameKinds.{one_place}
use Rattle.csp_answer.proofs.table.have_same_places.Goals as goal

pub loop-answers-preserved : goal.loop-answers-preserved
loop-answers-preserved c =
    one_place c.args.one c.args.other c.args.each.now c.loop-answers.answers-index c.answers-item.result c.loop-answers-test.true c.answers-item.is
    (c.is_same_place.ensures c.if-not-is_same_place.false) c.loop-answers.invariant
