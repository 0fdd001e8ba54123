use Rattle.csp_model.proofs.EqualityDecided.{same_host_decides, same_port_decides, same_algorithm_decides, same_hash_decides, same_keyword_decides}
use Rattle.csp_model.proofs.laws.tests_of_equality_decide_it.Goals as goal

pub returns-clause-host : goal.returns-clause-host
returns-clause-host c = same_host_decides

pub returns-clause-port : goal.returns-clause-port
returns-clause-port c = same_port_decides

pub returns-clause-algorithm : goal.returns-clause-algorithm
returns-clause-algorithm c = same_algorithm_decides

pub returns-clause-hash : goal.returns-clause-hash
returns-clause-hash c = same_hash_decides

pub returns-clause-keyword : goal.returns-clause-keyword
returns-clause-keyword c = same_keyword_decides
