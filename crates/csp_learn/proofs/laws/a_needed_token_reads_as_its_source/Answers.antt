use Rattle.csp_learn.proofs.AllowedSaid.{token_reads}
use Rattle.csp_learn.proofs.laws.a_needed_token_reads_as_its_source.Goals as goal

pub returns : goal.returns
returns c there valid named = token_reads c.each_token_has_one_source.ensures.built there valid named
