use Rattle.std.proofs.Common.{◌∙◌, sym, ap, subst}
use Rattle.std.specs.List.{slice_get}
use Rattle.std.proofs.lemmas.Result.{IfOk-weaker}
use Rattle.csp_model.specs.declared.url.Origin.{Origin}
use Rattle.csp_formula.specs.Compiled.{inline_sentence}
use Rattle.csp_formula.specs.Questions.{answer_of_list, question_sentence}
use Rattle.csp_formula.specs.Sentences.{Sentence}
use Rattle.csp_answer.specs.Tables.{Says}
use Rattle.csp_answer.proofs.Answered.{nothing_at, said_at}
use Rattle.csp_answer.proofs.asking.answer_to.Goals as goal

pub list_answer-requires : goal.list_answer-requires
list_answer-requires c = (c.in-Some.ensures c.args.naming.names.now c.requires).named

pub returns-in-Known : goal.returns-in-Known
returns-in-Known c =
    let policy = c.args.named.now.policy.now in
    let names = c.args.naming.names.now in
    IfOk-weaker c.known_answer.result _ _ (λ made known hashes are. subst (λ (x : Sentence). Says names x made)
    (ap (question_sentence policy hashes) (sym c.in-Known.is)) (known names)) c.known_answer.ensures

pub returns-in-None : goal.returns-in-None
returns-in-None c =
    let policy = c.args.named.now.policy.now in
    let names = c.args.naming.names.now in
    let asked = c.in-Listed.asked in
    IfOk-weaker c.known_answer-in-None.result _ _ (λ made known hashes are. subst (λ (x : Sentence). Says names x made)
    (nothing_at (slice_get policy.directives asked.place) (answer_of_list policy.origin hashes asked) (c.in-None.ensures names c.requires)
    ∙ ap (question_sentence policy hashes) (sym c.in-Listed.is)) (known names)) c.known_answer-in-None.ensures

pub returns-in-Some : goal.returns-in-Some
returns-in-Some c =
    let policy = c.args.named.now.policy.now in
    let names = c.args.naming.names.now in
    let asked = c.in-Listed.asked in
    let list = c.in-Some.list in
    let found = c.in-Some.ensures names c.requires in
    IfOk-weaker c.list_answer.result _ _ (λ made answers hashes are. subst (λ (x : Sentence). Says names x made)
    (ap (λ (self : Origin). answer_of_list self hashes asked list.sources.now) found.origin
    ∙ said_at (slice_get policy.directives asked.place) list.sources.now (answer_of_list policy.origin hashes asked) found.at
    ∙ ap (question_sentence policy hashes) (sym c.in-Listed.is)) (answers hashes are)) c.list_answer.ensures

pub returns-in-None-list_at : goal.returns-in-None-list_at
returns-in-None-list_at c =
    let policy = c.args.named.now.policy.now in
    let names = c.args.naming.names.now in
    let at = c.in-Inline in
    IfOk-weaker c.known_answer-in-None-list_at.result _ _ (λ made known hashes are. subst (λ (x : Sentence). Says names x made)
    (nothing_at (slice_get policy.directives at.place) (inline_sentence at.kind) (c.in-None-list_at.ensures names c.requires)
    ∙ ap (question_sentence policy hashes) (sym at.is)) (known names)) c.known_answer-in-None-list_at.ensures

pub returns-in-Some-list_at : goal.returns-in-Some-list_at
returns-in-Some-list_at c =
    let policy = c.args.named.now.policy.now in
    let names = c.args.naming.names.now in
    let at = c.in-Inline in
    let list = c.in-Some-list_at.list in
    let found = c.in-Some-list_at.ensures names c.requires in
    IfOk-weaker c.inline_answer.result _ _ (λ made answers hashes are. subst (λ (x : Sentence). Says names x made)
    (said_at (slice_get policy.directives at.place) list.sources.now (inline_sentence at.kind) found.at
    ∙ ap (question_sentence policy hashes) (sym at.is)) (answers names found.named)) c.inline_answer.ensures
