use Rattle.std.proofs.Common.{◌∙◌, ap, List, ◌++◌}
use Rattle.json.specs.Token.{Token}
use Rattle.csp_policy.proofs.Written.{dropped_other, dropped_utf8}
use Rattle.csp_policy.proofs.dropped.write_dropped.Goals as goal

pub returns-in_ok-write_utf8-in-Ok-clause-tokens : goal.returns-in_ok-write_utf8-in-Ok-clause-tokens
returns-in_ok-write_utf8-in-Ok-clause-tokens c =
    c.in_ok-write_utf8-in-Ok.ensures.tokens
    ∙ ap (λ (l : List Token). c.args.out.now.tokens ++ l)
    (dropped_utf8 _ c.args.piece.now c.args.line c.args.reason.now c.in-Ok.ensures.cases.0 c.in-Ok.ensures.cases.1)

pub returns-in_ok-write_other-in-Err-clause-tokens : goal.returns-in_ok-write_other-in-Err-clause-tokens
returns-in_ok-write_other-in-Err-clause-tokens c =
    c.in_ok-write_other-in-Err.ensures.tokens
    ∙ ap (λ (l : List Token). c.args.out.now.tokens ++ l)
    (dropped_other _ c.args.piece.now c.args.line c.args.reason.now
    (c.as_str.ensures.value ∙ c.in_ok-shown-in-Err.ensures) c.in-Err.ensures.cases.0)
