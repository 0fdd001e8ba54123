use Rattle.csp_why.proofs.Alone.{told_alone}
use Rattle.csp_why.proofs.laws.a_token_that_is_told_allows_alone.Goals as goal

pub returns : goal.returns
returns c = told_alone
