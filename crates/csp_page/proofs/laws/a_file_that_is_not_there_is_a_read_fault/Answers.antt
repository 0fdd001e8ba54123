use Rattle.csp_page.proofs.Held.{missing_is_read_fault}
use Rattle.csp_page.proofs.laws.a_file_that_is_not_there_is_a_read_fault.Goals as goal

pub returns : goal.returns
returns c = missing_is_read_fault
