use Rattle.csp_model.proofs.ListLaws.{requests_follow}
use Rattle.csp_model.proofs.laws.subsumption_holds_of_requests.Goals as goal

pub returns : goal.returns
returns c = requests_follow
