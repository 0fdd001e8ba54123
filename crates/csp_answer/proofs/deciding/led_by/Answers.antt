use Rattle.std.proofs.Common.{sym, subst}
use Rattle.csp_answer.specs.Answers.{Rise}
use Rattle.csp_answer.proofs.Finding.{all_behind, finds_behind, rise_behind}
use Rattle.csp_answer.proofs.deciding.led_by.Goals as goal

pub led_below-requires-2 : goal.led_below-requires-2
led_below-requires-2 c =
    let cs = c.args.conjunctions.now in
    subst Rise (sym (all_behind c.led_below.result cs)) (rise_behind c.led_below.result cs c.requires.rise)

pub returns : goal.returns
returns c =
    let cs = c.args.conjunctions.now in
    rw c.some_of.ensures
    (finds_behind c.args.branch.now cs c.args.from c.args.to c.led_below.result c.led_below-2.result _ (all_behind c.led_below.result cs) c.led_below.ensures.before
    c.led_below-2.ensures.from c.led_below-2.ensures.inside)
