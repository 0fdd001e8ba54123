use Rattle.std.proofs.Common.{sym, ◌∙◌, ap}
use Rattle.csp_match.specs.Shown.{shown}
use Rattle.csp_why.specs.Reasons.{is_allowing}
use Rattle.csp_why.proofs.Decided.{reason_decided, told_allows, told_blocks}
use Rattle.csp_why.proofs.explaining.explain.Goals as goal

pub returns-in-Some-allowance-clause-reason : goal.returns-in-Some-allowance-clause-reason
returns-in-Some-allowance-clause-reason c =
    told_allows c.args.policy.now c.args.check.now (shown c.in-Some.found) c.displacement-displaced.result c.is_none.result
    c.allowance.result c.in-Some-allowance.by (sym c.in-Some.ensures) c.displacement-displaced.ensures c.is_none.ensures
    c.allowance.ensures c.in-Some-allowance.is

pub returns-in-Some-allowance-clause-allows : goal.returns-in-Some-allowance-clause-allows
returns-in-Some-allowance-clause-allows c =
    ap is_allowing (returns-in-Some-allowance-clause-reason c) ∙ reason_decided c.args.policy.now c.args.check.now

pub returns-clause-reason : goal.returns-clause-reason
returns-clause-reason c =
    told_blocks c.args.policy.now c.args.check.now (shown c.in-Some.found) c.displacement-displaced.result c.is_none.result
    c.allowance.result c.in_ok-near.near (sym c.in-Some.ensures) c.displacement-displaced.ensures c.is_none.ensures
    c.allowance.ensures c.in_default-allowance.is c.in_ok-near.ensures

pub returns-clause-allows : goal.returns-clause-allows
returns-clause-allows c = ap is_allowing (returns-clause-reason c) ∙ reason_decided c.args.policy.now c.args.check.now
