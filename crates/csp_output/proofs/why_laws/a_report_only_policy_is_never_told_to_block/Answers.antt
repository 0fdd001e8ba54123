use Rattle.csp_output.proofs.ItemsExplained.{would_block}
use Rattle.csp_output.proofs.why_laws.a_report_only_policy_is_never_told_to_block.Goals as goal

pub returns : goal.returns
returns c = would_block
