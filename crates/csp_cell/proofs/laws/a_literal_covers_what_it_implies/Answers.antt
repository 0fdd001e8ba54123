use Rattle.csp_cell.proofs.Covering.{covers_implied, implies_covered}
use Rattle.csp_cell.proofs.laws.a_literal_covers_what_it_implies.Goals as goal

pub returns : goal.returns
returns c literal other = (implies_covered literal other, covers_implied literal other)
