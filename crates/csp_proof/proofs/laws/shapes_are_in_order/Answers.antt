use Rattle.csp_facts.proofs.Listed.{numbered}
use Rattle.csp_proof.proofs.laws.shapes_are_in_order.Goals as goal

pub returns : goal.returns
returns c = numbered
