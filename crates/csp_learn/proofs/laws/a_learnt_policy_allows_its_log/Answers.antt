use Rattle.csp_learn.proofs.AllowedSaid.{allows_log}
use Rattle.csp_learn.proofs.laws.a_learnt_policy_allows_its_log.Goals as goal

pub returns : goal.returns
returns c logged origin valid = allows_log origin logged (c.a_learnt_policy_allows_what_is_needed.ensures logged origin valid)
