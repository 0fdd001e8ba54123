use Rattle.csp_branch.proofs.Forest.{forest_in}
use Rattle.csp_branch.proofs.name_laws.names_are_a_forest.Goals as goal

pub returns : goal.returns
returns c = forest_in
