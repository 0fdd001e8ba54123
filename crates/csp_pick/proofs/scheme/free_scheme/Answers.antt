use Rattle.std.proofs.lemmas.Result.{IfOk-weaker}
use Rattle.csp_pick.proofs.SchemesMet.{data_is_valid, blob_is_valid}
use Rattle.csp_pick.proofs.scheme.free_scheme.Goals as goal

pub returns-then-is_said-clause-valid : goal.returns-then-is_said-clause-valid
returns-then-is_said-clause-valid c = IfOk-weaker c.fresh_text.result _ _ blob_is_valid c.fresh_text.ensures.numbered

pub returns-else-is_said-clause-valid : goal.returns-else-is_said-clause-valid
returns-else-is_said-clause-valid c = IfOk-weaker c.fresh_text-else-is_said.result _ _ data_is_valid c.fresh_text-else-is_said.ensures.numbered
