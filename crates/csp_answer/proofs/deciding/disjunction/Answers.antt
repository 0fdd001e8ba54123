use Rattle.std.proofs.Common.{◌≡◌, ◌∙◌, sym, ap, true, Some, of_calls, rules}
use Rattle.csp_formula.specs.Surely.{maybe_or}
use Rattle.csp_answer.proofs.Parts.{finds_all, true_of_all}
use Rattle.csp_answer.proofs.deciding.disjunction.Goals as goal

pub returns-then-eq : goal.returns-then-eq
returns-then-eq c =
    let is : c.some_of-known.result ≡ Some true = search (rules, of_calls) in
    is ∙ true_of_all c.args.branch.now c.args.conjunctions.now c.led_below.result (sym c.some_of-known.ensures ∙ is)

pub returns : goal.returns
returns c =
    c.or.ensures
    ∙ ap (λ o. maybe_or o c.led_from.result) c.some_of-known.ensures
    ∙ finds_all c.args.branch.now c.args.conjunctions.now c.led_below.result c.led_below.ensures.inside c.led_below.ensures.from c.led_from.result c.led_from.ensures
