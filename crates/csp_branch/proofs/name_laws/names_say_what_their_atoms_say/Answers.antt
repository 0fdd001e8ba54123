use Rattle.csp_branch.proofs.Forest.{around_in_there}
use Rattle.csp_branch.proofs.name_laws.names_say_what_their_atoms_say.Goals as goal

pub returns : goal.returns
returns c = around_in_there
