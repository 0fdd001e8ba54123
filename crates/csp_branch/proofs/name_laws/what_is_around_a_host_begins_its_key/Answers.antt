use Rattle.csp_branch.proofs.HostKeys.{around_is_front, front_is_around}
use Rattle.csp_branch.proofs.name_laws.what_is_around_a_host_begins_its_key.Goals as goal

pub returns : goal.returns
returns c outer inner one other = (around_is_front outer inner one other, front_is_around outer inner one other)
