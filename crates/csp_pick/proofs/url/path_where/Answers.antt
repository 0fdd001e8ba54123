use Rattle.std.proofs.Common.{rules}
use Rattle.csp_model.specs.Validity.{is_piece}
use Rattle.csp_pick.proofs.url.path_where.Goals as goal

pub returns-else-compares_paths-clause-valid : goal.returns-else-compares_paths-clause-valid
unfolding is_piece
returns-else-compares_paths-clause-valid c = search rules
