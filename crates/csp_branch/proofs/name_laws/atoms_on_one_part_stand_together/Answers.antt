use Rattle.csp_branch.proofs.Forest.{parts_together}
use Rattle.csp_branch.proofs.name_laws.atoms_on_one_part_stand_together.Goals as goal

pub returns : goal.returns
returns c = parts_together
