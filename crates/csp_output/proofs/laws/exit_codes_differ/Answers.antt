use Rattle.csp_output.proofs.ExitCodes.{codes_differ}
use Rattle.csp_output.proofs.laws.exit_codes_differ.Goals as goal

pub returns : goal.returns
returns c = codes_differ
