use Rattle.std.proofs.Common.{arith}
use Rattle.csp_model.specs.Ascii.{code}
use Rattle.csp_token.specs.Integrity.{is_hyphen}
use Rattle.csp_token.proofs.Cuts.{cut_at, uncut}
use Rattle.csp_token.proofs.integrity.parts.Goals as goal

pub returns-in-Some-clause-name : goal.returns-in-Some-clause-name
unfolding is_hyphen
returns-in-Some-clause-name c =
    (cut_at (code "-") c.args.text.now c.split_once.result c.in-Some.found c.split_once.ensures.cases (omega arith) c.in-Some.is).0

pub returns-in-Some-clause-value : goal.returns-in-Some-clause-value
unfolding is_hyphen
returns-in-Some-clause-value c =
    (cut_at (code "-") c.args.text.now c.split_once.result c.in-Some.found c.split_once.ensures.cases (omega arith) c.in-Some.is).1

pub returns-in-None-clause-name : goal.returns-in-None-clause-name
unfolding is_hyphen
returns-in-None-clause-name c =
    (uncut (code "-") c.args.text.now c.split_once.result c.split_once.ensures.cases (omega arith) c.in-None.is).0

pub returns-in-None-clause-value : goal.returns-in-None-clause-value
unfolding is_hyphen
returns-in-None-clause-value c =
    (uncut (code "-") c.args.text.now c.split_once.result c.split_once.ensures.cases (omega arith) c.in-None.is).1
