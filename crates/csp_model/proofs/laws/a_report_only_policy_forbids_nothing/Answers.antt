use Rattle.csp_model.proofs.ListLaws.{report_forbids_nothing}
use Rattle.csp_model.proofs.laws.a_report_only_policy_forbids_nothing.Goals as goal

pub returns : goal.returns
returns c = report_forbids_nothing
