use Rattle.csp_output.proofs.Shows.{shows_what_blocks}
use Rattle.csp_output.proofs.laws.a_difference_shows_what_blocks.Goals as goal

pub returns : goal.returns
returns c = shows_what_blocks c.a_verdict_blocks_what_the_list_refuses.ensures
