use Rattle.csp_output.proofs.SameStatus.{same_status}
use Rattle.csp_output.proofs.why_laws.why_ends_as_judge_does.Goals as goal

pub returns : goal.returns
returns c = same_status
