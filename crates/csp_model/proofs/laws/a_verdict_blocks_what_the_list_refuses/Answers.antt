use Rattle.csp_model.proofs.VerdictLaws.{blocked_where_refused}
use Rattle.csp_model.proofs.laws.a_verdict_blocks_what_the_list_refuses.Goals as goal

pub returns : goal.returns
returns c = blocked_where_refused
