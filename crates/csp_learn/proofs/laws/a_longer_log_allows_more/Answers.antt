use Rattle.csp_learn.proofs.AllowedSaid.{allows_more}
use Rattle.csp_learn.proofs.laws.a_longer_log_allows_more.Goals as goal

pub returns : goal.returns
returns c shorter longer origin first second more asked allowed =
    allows_more c.each_token_has_one_source.ensures.built origin shorter longer first second more asked allowed
