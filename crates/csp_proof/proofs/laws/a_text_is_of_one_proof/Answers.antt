use Rattle.csp_proof.proofs.Refused.{one_proof}
use Rattle.csp_proof.proofs.laws.a_text_is_of_one_proof.Goals as goal

pub returns : goal.returns
returns c = one_proof
