use Rattle.csp_output.proofs.TidiedLists.{tidied_reads_back}
use Rattle.csp_output.proofs.laws.a_tidied_list_reads_back.Goals as goal

pub returns : goal.returns
returns c = tidied_reads_back c.header_lines_read_back.ensures c.what_is_read_can_be_printed.ensures
