use Rattle.csp_facts.proofs.Spelling.{words, one}
use Rattle.csp_facts.proofs.laws.a_valid_atom_is_told_by_its_spelling.Goals as goal

pub returns-clause-words : goal.returns-clause-words
returns-clause-words c = words

pub returns-clause-one : goal.returns-clause-one
returns-clause-one c = one
