use Rattle.csp_output.proofs.OneStatus.{clean_where_subsumed, found_where_not, same_status}
use Rattle.csp_output.proofs.laws.a_comparison_has_one_status.Goals as goal

pub returns-clause-status : goal.returns-clause-status
returns-clause-status c = clean_where_subsumed

pub returns-clause-found : goal.returns-clause-found
returns-clause-found c = found_where_not

pub returns-clause-same : goal.returns-clause-same
returns-clause-same c = same_status
