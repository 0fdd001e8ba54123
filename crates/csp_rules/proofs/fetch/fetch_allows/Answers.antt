use Rattle.std.proofs.Common.{rules}
use Rattle.csp_model.proofs.FetchDecided.{fetch_decides}
use Rattle.csp_rules.proofs.fetch.fetch_allows.Goals as goal

pub returns-in-Some-decided_by_tokens-clause-value : goal.returns-in-Some-decided_by_tokens-clause-value
returns-in-Some-decided_by_tokens-clause-value c = search rules

pub returns-in-Some-decided_by_tokens-clause-allows : goal.returns-in-Some-decided_by_tokens-clause-allows
returns-in-Some-decided_by_tokens-clause-allows c =
    let a = c.args in
    let value = returns-in-Some-decided_by_tokens-clause-value c in
    rw value (fetch_decides a.policy.now a.group a.url.now a.redirects a.nonce.now a.integrity.now a.parser_inserted)

pub returns-in-None-decided_by_tokens-clause-value : goal.returns-in-None-decided_by_tokens-clause-value
returns-in-None-decided_by_tokens-clause-value c = search rules

pub returns-in-None-decided_by_tokens-clause-allows : goal.returns-in-None-decided_by_tokens-clause-allows
returns-in-None-decided_by_tokens-clause-allows c =
    let a = c.args in
    let value = returns-in-None-decided_by_tokens-clause-value c in
    rw value (fetch_decides a.policy.now a.group a.url.now a.redirects a.nonce.now a.integrity.now a.parser_inserted)
