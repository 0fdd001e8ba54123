use Rattle.std.proofs.Common.{rules}
use Rattle.csp_model.proofs.InlineDecided.{wasm_decides}
use Rattle.csp_rules.proofs.inline.wasm_allows.Goals as goal

pub returns-in-Some-clause-value : goal.returns-in-Some-clause-value
returns-in-Some-clause-value c = search rules

pub returns-in-Some-clause-allows : goal.returns-in-Some-clause-allows
returns-in-Some-clause-allows c =
    let value = returns-in-Some-clause-value c in
    rw value (wasm_decides c.args.policy.now)
