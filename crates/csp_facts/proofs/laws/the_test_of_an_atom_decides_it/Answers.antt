use Rattle.csp_facts.proofs.HoldingDecided.{holds_decides}
use Rattle.csp_facts.proofs.laws.the_test_of_an_atom_decides_it.Goals as goal

pub returns : goal.returns
returns c = holds_decides
