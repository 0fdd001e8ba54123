use Rattle.csp_run.proofs.AcceptedRuns.{accepted_so}
use Rattle.csp_run.proofs.command_laws.check_accepts_only_inclusion.Goals as goal

pub returns : goal.returns
returns c = accepted_so c.an_accepted_text_shows_inclusion.ensures c.what_is_read_is_a_valid_origin.ensures c.what_is_read_is_readable.ensures
