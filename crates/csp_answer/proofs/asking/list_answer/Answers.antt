use Rattle.std.proofs.Common.{◌∙◌, sym, ap, [], ◌∷◌}
use Rattle.std.proofs.lemmas.Result.{IfOk-weaker}
use Rattle.csp_model.specs.declared.check.FetchRule.{FetchRule}
use Rattle.csp_facts.specs.declared.shape.Shape.{Shape}
use Rattle.csp_formula.specs.Compiled.{fetch_sentence, nonces_sentence}
use Rattle.csp_formula.specs.Questions.{shape_asked}
use Rattle.csp_formula.specs.Sentences.{any_of}
use Rattle.csp_formula.specs.Sources.{list_sentence}
use Rattle.csp_answer.proofs.Answered.{made_plain, together}
use Rattle.csp_answer.proofs.asking.list_answer.Goals as goal

pub returns-in_ok-concatenate-in-Style : goal.returns-in_ok-concatenate-in-Style
returns-in_ok-concatenate-in-Style c =
    let list = c.args.list in
    let asked = c.args.asked in
    let names = c.args.naming.names.now in
    let sources = list.sources.now in
    let nonces = nonces_sentence sources in
    let listed = list_sentence list.origin.now c.shape.result sources in
    let parts = together names nonces listed c.in_ok-nonces-in-Style.nonces.items c.in_ok-listed-in-Style.listed.items c.in_ok-concatenate-in-Style.field-0.items
    (c.in_ok-nonces-in-Style.ensures names c.requires) c.in_ok-listed-in-Style.ensures c.in_ok-concatenate-in-Style.ensures in
    IfOk-weaker c.new.result _ _ (λ made plain hashes are. plain names (any_of (nonces ∷ listed ∷ [])) _ parts
    (ap (λ (k : Shape). any_of (nonces ∷ list_sentence list.origin.now k sources ∷ [])) c.shape.ensures
    ∙ ap (λ (r : FetchRule). fetch_sentence r hashes sources asked.parser_inserted (list_sentence list.origin.now (shape_asked asked) sources)) (sym c.in-Style.is)))
    (made_plain c.new.result c.in_ok-concatenate-in-Style.field-0.items c.new.ensures.said c.new.ensures.among c.new.ensures.answer)

pub returns-in_ok-list_conjunctions-in-List : goal.returns-in_ok-list_conjunctions-in-List
returns-in_ok-list_conjunctions-in-List c =
    let list = c.args.list in
    let asked = c.args.asked in
    let names = c.args.naming.names.now in
    let sources = list.sources.now in
    IfOk-weaker c.new-in-List.result _ _ (λ made plain hashes are. plain names (list_sentence list.origin.now c.shape-in-List.result sources) _ c.in_ok-list_conjunctions-in-List.ensures
    (ap (λ (k : Shape). list_sentence list.origin.now k sources) c.shape-in-List.ensures
    ∙ ap (λ (r : FetchRule). fetch_sentence r hashes sources asked.parser_inserted (list_sentence list.origin.now (shape_asked asked) sources)) (sym c.in-List.is)))
    (made_plain c.new-in-List.result c.in_ok-list_conjunctions-in-List.field-0.items c.new-in-List.ensures.said c.new-in-List.ensures.among c.new-in-List.ensures.answer)
