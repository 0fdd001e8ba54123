use Rattle.std.proofs.Common.{◌∙◌, sym, subst, not}
use Rattle.std.proofs.lemmas.Bool.{cond-true}
use Rattle.std.proofs.lemmas.Result.{IfOk-weaker}
use Rattle.csp_model.specs.DecideTokens.{has_keyword}
use Rattle.csp_model.specs.declared.source.Keyword.TheVariants.{StrictDynamic}
use Rattle.csp_formula.specs.Questions.{shape_asked}
use Rattle.csp_formula.specs.Sentences.{Known}
use Rattle.csp_formula.specs.Sources.{list_sentence}
use Rattle.csp_answer.specs.Asking.{AmountTo}
use Rattle.csp_answer.proofs.asking.dynamic_or_listed.Goals as goal

pub returns-then-is_dynamic : goal.returns-then-is_dynamic
returns-then-is_dynamic c =
    let list = c.args.list in
    let names = c.args.names.now in
    let same = cond-true (has_keyword StrictDynamic list.sources.now) (Known (not c.args.asked.parser_inserted))
    (list_sentence list.origin.now (shape_asked c.args.asked) list.sources.now) (sym c.is_dynamic.ensures ∙ c.if-is_dynamic.true) in
    IfOk-weaker c.constant.result _ _ (λ made known. subst (λ s. AmountTo names s made.items) (sym same) (known names)) c.constant.ensures
