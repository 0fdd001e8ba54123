use Rattle.csp_model.proofs.NamesListed.{every_name}
use Rattle.csp_desk.proofs.laws.a_tally_counts_by_every_name.Goals as goal

pub returns-clause-every : goal.returns-clause-every
returns-clause-every c = every_name
