use Rattle.csp_model.proofs.MatchingDecided.{host_under_decides, matches_decides, list_decides}
use Rattle.csp_model.proofs.laws.tests_of_matching_decide_it.Goals as goal

pub returns-clause-under : goal.returns-clause-under
returns-clause-under c = host_under_decides

pub returns-clause-source : goal.returns-clause-source
returns-clause-source c = matches_decides

pub returns-clause-list : goal.returns-clause-list
returns-clause-list c = list_decides
