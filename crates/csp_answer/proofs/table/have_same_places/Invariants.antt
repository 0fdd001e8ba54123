use Rattle.std.proofs.Common.{◌≡◌, map, take}
use Rattle.csp_answer.specs.Tables.{answer_at}
use Rattle.csp_answer.proofs.table.have_same_places.Given as goal

abbrev pub invariant-loop-answers : goal.invariant-loop-answers
invariant-loop-answers l = map (answer_at l.one) (take l.answers-index l.each) ≡ map (answer_at l.other) (take l.answers-index l.each)
