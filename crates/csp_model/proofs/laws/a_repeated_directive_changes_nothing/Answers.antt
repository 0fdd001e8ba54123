use Rattle.csp_model.proofs.FirstsLaws.{repeated}
use Rattle.csp_model.proofs.laws.a_repeated_directive_changes_nothing.Goals as goal

pub returns : goal.returns
returns c = repeated
