use Rattle.std.proofs.Common.{◌∙◌, sym, ap}
use Rattle.std.proofs.lemmas.Bool.{cond-true, cond-false}
use Rattle.csp_proof.proofs.Numbers.{number_from, number_parsed}
use Rattle.csp_proof.proofs.words.number_below.Goals as goal

pub returns-then-is_spelled_below-clause-value : goal.returns-then-is_spelled_below-clause-value
returns-then-is_spelled_below-clause-value c =
    sym (number_parsed c.args.limit c.args.text.now c.parse.result c.requires c.parse.ensures.value.0 ∙ ap (number_from c.args.limit c.args.text.now) c.in-Ok.is
    ∙ cond-true _ _ _ (sym c.is_spelled_below.ensures ∙ c.if-is_spelled_below.true))

pub returns-else-is_spelled_below-clause-value : goal.returns-else-is_spelled_below-clause-value
returns-else-is_spelled_below-clause-value c =
    sym (number_parsed c.args.limit c.args.text.now c.parse.result c.requires c.parse.ensures.value.0 ∙ ap (number_from c.args.limit c.args.text.now) c.in-Ok.is
    ∙ cond-false _ _ _ (sym c.is_spelled_below.ensures ∙ c.if-is_spelled_below.false))

pub returns-in-Err-clause-value : goal.returns-in-Err-clause-value
returns-in-Err-clause-value c =
    sym (number_parsed c.args.limit c.args.text.now c.parse.result c.requires c.parse.ensures.value.0 ∙ ap (number_from c.args.limit c.args.text.now) c.in-Err.is)
