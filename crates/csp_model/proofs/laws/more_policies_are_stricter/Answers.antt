use Rattle.csp_model.proofs.ListLaws.{more_is_stricter}
use Rattle.csp_model.proofs.laws.more_policies_are_stricter.Goals as goal

pub returns : goal.returns
returns c = more_is_stricter
