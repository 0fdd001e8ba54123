use Rattle.csp_compare.proofs.NoneDiffers.{none_where_subsumed}
use Rattle.csp_compare.proofs.laws.no_difference_is_inclusion.Goals as goal

pub returns : goal.returns
returns c = none_where_subsumed
