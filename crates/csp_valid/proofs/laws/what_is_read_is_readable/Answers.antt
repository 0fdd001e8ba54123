use Rattle.csp_valid.proofs.ReadLists.{read_readable}
use Rattle.csp_valid.proofs.laws.what_is_read_is_readable.Goals as goal

pub returns : goal.returns
returns c = read_readable
