use Rattle.csp_branch.proofs.Grouping.{said_same, said_other}
use Rattle.csp_branch.proofs.laws.a_literal_speaks_of_its_group.Goals as goal

pub returns-clause-same : goal.returns-clause-same
returns-clause-same c atoms known asked positive d order h k same = said_same atoms order known asked h k positive d same

pub returns-clause-other : goal.returns-clause-other
returns-clause-other c atoms known asked positive d order h k other = said_other atoms order known asked h k positive d other
