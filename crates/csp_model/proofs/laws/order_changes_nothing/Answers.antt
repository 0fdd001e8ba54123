use Rattle.csp_model.proofs.ListLaws.{order_is_free}
use Rattle.csp_model.proofs.laws.order_changes_nothing.Goals as goal

pub returns : goal.returns
returns c = order_is_free
