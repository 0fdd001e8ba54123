use Rattle.std.proofs.Common.{rules}
use Rattle.csp_model.proofs.InlineDecided.{eval_decides}
use Rattle.csp_rules.proofs.inline.eval_allows.Goals as goal

pub returns-in-Some-clause-value : goal.returns-in-Some-clause-value
returns-in-Some-clause-value c = search rules

pub returns-in-Some-clause-allows : goal.returns-in-Some-clause-allows
returns-in-Some-clause-allows c =
    let value = returns-in-Some-clause-value c in
    rw value (eval_decides c.args.policy.now)
