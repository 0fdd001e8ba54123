use Rattle.std.proofs.Common.{arith}
use Rattle.csp_model.specs.Ascii.{code}
use Rattle.csp_token.specs.Integrity.{is_question_mark}
use Rattle.csp_token.proofs.Cuts.{cut_at, uncut}
use Rattle.csp_token.proofs.integrity.without_options.Goals as goal

pub returns-in-Some : goal.returns-in-Some
unfolding is_question_mark
returns-in-Some c =
    (cut_at (code "?") c.args.token.now c.split_once.result (c.in-Some.front, c.in-Some.field-0-1)
    c.split_once.ensures.cases (omega arith) c.in-Some.is).0

pub returns-in-None : goal.returns-in-None
unfolding is_question_mark
returns-in-None c =
    (uncut (code "?") c.args.token.now c.split_once.result c.split_once.ensures.cases (omega arith) c.in-None.is).0
