use Rattle.csp_formula.proofs.AllDecided.{all_decided}
use Rattle.csp_formula.proofs.laws.literals_that_decide_each_atom_decide_a_sentence.Goals as goal

pub returns : goal.returns
returns c = all_decided
