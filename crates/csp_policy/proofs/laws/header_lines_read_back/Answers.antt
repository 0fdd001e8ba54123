use Rattle.csp_policy.proofs.PrintedLines.{read_back}
use Rattle.csp_policy.proofs.laws.header_lines_read_back.Goals as goal

pub returns : goal.returns
returns c = read_back
