use Rattle.csp_cell.proofs.Once.{placed_once}
use Rattle.csp_cell.proofs.laws.a_part_is_placed_once.Goals as goal

pub returns : goal.returns
returns c region cell i j d low h = placed_once _ _ (cell.pairs i j d low h)
