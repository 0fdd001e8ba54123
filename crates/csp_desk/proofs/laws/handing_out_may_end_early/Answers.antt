use Rattle.csp_desk.proofs.GrowthLaws.{GrewInPart-front, StopsAt-front}
use Rattle.csp_desk.proofs.laws.handing_out_may_end_early.Goals as goal

pub returns-clause-part : goal.returns-clause-part
returns-clause-part c = GrewInPart-front

pub returns-clause-stop : goal.returns-clause-stop
returns-clause-stop c = StopsAt-front
