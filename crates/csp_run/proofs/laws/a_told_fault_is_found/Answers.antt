use Rattle.csp_run.proofs.ToldFault.{first_fault}
use Rattle.csp_run.proofs.laws.a_told_fault_is_found.Goals as goal

pub returns : goal.returns
returns c = first_fault
