use Rattle.csp_model.proofs.VerdictDecided.{list_allows_decides}
use Rattle.csp_model.proofs.laws.a_list_allows_what_its_enforced_policies_allow.Goals as goal

pub returns : goal.returns
returns c = list_allows_decides
