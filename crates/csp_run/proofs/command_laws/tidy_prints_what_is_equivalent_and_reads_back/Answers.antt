use Rattle.csp_run.proofs.TidiedRuns.{tidied_so}
use Rattle.csp_run.proofs.command_laws.tidy_prints_what_is_equivalent_and_reads_back.Goals as goal

pub returns : goal.returns
returns c = tidied_so c.a_tidied_list_reads_back.ensures c.what_is_read_is_a_valid_origin.ensures
