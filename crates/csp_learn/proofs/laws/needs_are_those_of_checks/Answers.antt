use Rattle.csp_learn.proofs.NeedSets.{needs_members}
use Rattle.csp_learn.proofs.laws.needs_are_those_of_checks.Goals as goal

pub returns : goal.returns
returns c checks need = needs_members checks need
