use Rattle.csp_run.proofs.Refusing.{refusing_desk}
use Rattle.csp_run.proofs.laws.only_a_reporter_that_may_refuse_does.Goals as goal

pub returns : goal.returns
returns c = refusing_desk
