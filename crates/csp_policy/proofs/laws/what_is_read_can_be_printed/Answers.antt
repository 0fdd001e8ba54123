use Rattle.csp_policy.proofs.ReadPolicies.{policies_printable}
use Rattle.csp_policy.proofs.laws.what_is_read_can_be_printed.Goals as goal

pub returns : goal.returns
returns c = policies_printable
