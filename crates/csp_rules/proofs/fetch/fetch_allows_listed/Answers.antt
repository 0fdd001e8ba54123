use Rattle.std.proofs.Common.{rules}
use Rattle.csp_rules.proofs.ListedDecided.{listed_decides}
use Rattle.csp_rules.proofs.fetch.fetch_allows_listed.Goals as goal

pub returns-in-Some-clause-value : goal.returns-in-Some-clause-value
returns-in-Some-clause-value c = search rules

pub returns-in-Some-clause-allows : goal.returns-in-Some-clause-allows
returns-in-Some-clause-allows c =
    let a = c.args in
    let value = returns-in-Some-clause-value c in
    rw value (listed_decides a.policy.now a.group a.nonce.now a.integrity.now a.parser_inserted a.listed)
