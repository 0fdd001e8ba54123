use Rattle.csp_verdict.proofs.NamedDigests.{agreeing_verdict, wanted_verdict, wanted_violations}
use Rattle.csp_verdict.proofs.laws.only_named_algorithms_count.Goals as goal

pub returns-clause-agreeing : goal.returns-clause-agreeing
returns-clause-agreeing c = agreeing_verdict

pub returns-clause-wanted : goal.returns-clause-wanted
returns-clause-wanted c = wanted_verdict

pub returns-clause-violations : goal.returns-clause-violations
returns-clause-violations c = wanted_violations
