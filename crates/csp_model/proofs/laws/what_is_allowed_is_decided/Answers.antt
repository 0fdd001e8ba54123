use Rattle.csp_model.proofs.VerdictDecided.{allows_decides}
use Rattle.csp_model.proofs.laws.what_is_allowed_is_decided.Goals as goal

pub returns : goal.returns
returns c = allows_decides
