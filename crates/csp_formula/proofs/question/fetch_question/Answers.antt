use Rattle.std.proofs.Common.{◌∙◌, sym, ap}
use Rattle.std.specs.Prelude.{slice_get}
use Rattle.std.specs.Option.{option_and_then, option_map}
use Rattle.csp_match.specs.Shown.{shown}
use Rattle.csp_model.specs.Governing.{Governor, governor}
use Rattle.csp_model.specs.declared.check.FetchRule.{FetchRule}
use Rattle.csp_formula.specs.Questions.{list_question, question_sentence}
use Rattle.csp_formula.specs.declared.question.ListQuestion.{ListQuestion}
use Rattle.csp_formula.proofs.NormalQuestions.{governed_answer, normal_answer}
use Rattle.csp_formula.proofs.question.fetch_question.Goals as goal

pub returns-in-Some-Some : goal.returns-in-Some-Some
returns-in-Some-Some c hashes =
    let policy = c.args.policy.now in
    let at = c.in-Some-Some in
    let g = shown at.found in
    let found = sym c.governor.ensures ∙ ap (option_map shown) at.is-1 in
    let stands = sym (ap (option_and_then (slice_get policy.directives)) (sym c.governing.ensures.place ∙ at.is-0))
    ∙ sym (c.what_governs_stands_at_its_place.ensures policy c.directive-effective.result) ∙ ap (option_map (λ (x : Governor). x.directive)) found in
    let asked = c.list_question-asked.ensures ∙ ap (λ (by : FetchRule). list_question at.place by c.args.scheme c.args.redirected c.args.parser_inserted g.directive.sources) c.rule-rule.ensures in
    ap (question_sentence policy hashes) c.of_list.ensures
    ∙ normal_answer policy hashes c.list_question-asked.result g.directive (ap (λ (q : ListQuestion). slice_get policy.directives q.place) asked ∙ stands)
    ∙ governed_answer policy c.args.group hashes c.args.scheme c.args.redirected c.args.parser_inserted at.place g c.list_question-asked.result asked stands
    (sym (ap (governor policy) c.directive-effective.ensures) ∙ found)
