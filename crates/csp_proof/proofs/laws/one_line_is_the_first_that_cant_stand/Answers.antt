use Rattle.csp_proof.proofs.Refused.{one_first}
use Rattle.csp_proof.proofs.laws.one_line_is_the_first_that_cant_stand.Goals as goal

pub returns : goal.returns
returns c = one_first
