use Rattle.csp_order.proofs.OneOrder.{one_answer, yes_is_inclusion}
use Rattle.csp_order.proofs.laws.an_ordering_has_one_answer.Goals as goal

pub returns-clause-same : goal.returns-clause-same
returns-clause-same c = one_answer

pub returns-clause-inclusion : goal.returns-clause-inclusion
returns-clause-inclusion c = yes_is_inclusion
