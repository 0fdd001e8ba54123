use Rattle.csp_learn.proofs.AllowedSaid.{allows_needed}
use Rattle.csp_learn.proofs.laws.a_learnt_policy_allows_what_is_needed.Goals as goal

pub returns : goal.returns
returns c logged origin valid = allows_needed c.each_token_has_one_source.ensures.built origin logged valid
