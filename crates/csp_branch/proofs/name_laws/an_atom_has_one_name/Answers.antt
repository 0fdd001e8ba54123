use Rattle.csp_branch.proofs.Forest.{one_name}
use Rattle.csp_branch.proofs.name_laws.an_atom_has_one_name.Goals as goal

pub returns : goal.returns
returns c = one_name
