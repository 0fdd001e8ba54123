use Rattle.csp_facts.proofs.Refutes.{refutes_back}
use Rattle.csp_facts.proofs.laws.refutation_is_mutual.Goals as goal

pub returns : goal.returns
returns c = refutes_back
