use Rattle.csp_proof.proofs.CasesRead.{cases_back}
use Rattle.csp_proof.proofs.laws.nodes_in_preorder_are_one_tree.Goals as goal

pub returns : goal.returns
returns c = cases_back
