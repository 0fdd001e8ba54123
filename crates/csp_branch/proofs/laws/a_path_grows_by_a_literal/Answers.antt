use Rattle.csp_branch.proofs.Telling.{path_more}
use Rattle.csp_branch.proofs.laws.a_path_grows_by_a_literal.Goals as goal

pub returns : goal.returns
returns c = path_more
