use Rattle.csp_desk.proofs.GrowthLaws.{GrewInPart-all, GrewInPart-StopsAt}
use Rattle.csp_desk.proofs.laws.what_reporters_took_is_a_part.Goals as goal

pub returns-clause-all : goal.returns-clause-all
returns-clause-all c = GrewInPart-all

pub returns-clause-stop : goal.returns-clause-stop
returns-clause-stop c = GrewInPart-StopsAt
