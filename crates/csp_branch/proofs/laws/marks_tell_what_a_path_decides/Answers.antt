use Rattle.csp_branch.proofs.Telling.{tells_at}
use Rattle.csp_branch.proofs.laws.marks_tell_what_a_path_decides.Goals as goal

pub returns : goal.returns
returns c atoms steps asked d order named there = tells_at atoms order steps asked d named there
