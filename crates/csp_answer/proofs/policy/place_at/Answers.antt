use Rattle.std.proofs.Common.{sym, subst, List, All}
use Rattle.csp_answer.specs.Policies.{IsAsked, IsAnswerTo}
use Rattle.csp_answer.specs.Growing.{StandsAt}
use Rattle.csp_answer.specs.declared.policy.AnsweredQuestion.{AnsweredQuestion}
use Rattle.csp_answer.proofs.AskedBefore.{answered_at, all_extended, one_more, at_shape, same_answer}
use Rattle.csp_answer.proofs.policy.place_at.Goals as goal

pub returns-in-Some-clause-here : goal.returns-in-Some-clause-here
returns-in-Some-clause-here c =
    let atoms = c.args.naming.names.now in
    let pairs = c.args.naming.pairs.now in
    let policy = c.args.named.now.policy.now in
    let answers = c.args.answered.now.answers in
    let question = c.question_at-question.result in
    let place = c.in-Some.place in
    let is = subst (λ (asked : List AnsweredQuestion). IsAsked asked question place) c.as_slice.ensures c.in-Some.ensures in
    at_shape atoms pairs policy answers question c.args.shape place c.question_at-question.ensures
    (answered_at atoms pairs policy answers c.args.answered.now.asked question place c.requires.stand is)

pub returns-clause-stand : goal.returns-clause-stand
returns-clause-stand c =
    let atoms = c.args.naming.names.now in
    let pairs = c.args.naming.pairs.now in
    let policy = c.args.named.now.policy.now in
    let asked = c.args.answered.now.asked in
    let old = c.args.answered.now.answers in
    let new = c.answer_place.new.answers in
    let question = c.question_at-question.result in
    let place = c.in_ok-place.place in
    let stands = same_answer atoms pairs policy new question c.in_ok-answer.answer place c.in_ok-answer.ensures
    c.in_ok-place.ensures.here in
    subst (All (λ (one : AnsweredQuestion). StandsAt new (IsAnswerTo atoms pairs policy one.question) one.place)) (sym c.in_ok-push.ensures.ok)
    (one_more atoms pairs policy new asked question place (all_extended atoms pairs policy old new asked c.in_ok-place.ensures.extends c.requires.stand) stands)

pub returns-clause-here : goal.returns-clause-here
returns-clause-here c =
    let atoms = c.args.naming.names.now in
    let pairs = c.args.naming.pairs.now in
    let policy = c.args.named.now.policy.now in
    let new = c.answer_place.new.answers in
    let question = c.question_at-question.result in
    let place = c.in_ok-place.place in
    at_shape atoms pairs policy new question c.args.shape place c.question_at-question.ensures
    (same_answer atoms pairs policy new question c.in_ok-answer.answer place c.in_ok-answer.ensures
    c.in_ok-place.ensures.here)
