use Rattle.csp_output.proofs.Shows.{accepted_shows}
use Rattle.csp_output.proofs.laws.an_accepted_text_shows_inclusion.Goals as goal

pub returns : goal.returns
returns c = accepted_shows c.what_is_accepted_is_so.ensures
