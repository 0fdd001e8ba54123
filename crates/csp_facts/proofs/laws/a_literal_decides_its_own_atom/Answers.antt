use Rattle.csp_facts.proofs.Own.{own}
use Rattle.csp_facts.proofs.laws.a_literal_decides_its_own_atom.Goals as goal

pub returns : goal.returns
returns c = own
