use Rattle.csp_run.proofs.Ends.{clean_by_inclusion, found_by_difference}
use Rattle.csp_run.proofs.laws.compare_ends_by_inclusion.Goals as goal

pub returns-clause-clean : goal.returns-clause-clean
returns-clause-clean c = clean_by_inclusion

pub returns-clause-found : goal.returns-clause-found
returns-clause-found c = found_by_difference
