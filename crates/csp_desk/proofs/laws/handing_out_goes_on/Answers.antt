use Rattle.csp_desk.proofs.GrowthLaws.{all_grown-then, GrewInPart-then, StopsAt-then}
use Rattle.csp_desk.proofs.laws.handing_out_goes_on.Goals as goal

pub returns-clause-all : goal.returns-clause-all
returns-clause-all c = all_grown-then

pub returns-clause-part : goal.returns-clause-part
returns-clause-part c = GrewInPart-then

pub returns-clause-stop : goal.returns-clause-stop
returns-clause-stop c = StopsAt-then
