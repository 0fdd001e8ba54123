use Rattle.csp_answer.proofs.NamesOf.{answer_speaks, answer_there}
use Rattle.csp_answer.proofs.laws.an_answer_speaks_of_its_names.Goals as goal

pub returns-clause-atoms : goal.returns-clause-atoms
returns-clause-atoms c = answer_speaks

pub returns-clause-there : goal.returns-clause-there
returns-clause-there c = answer_there
