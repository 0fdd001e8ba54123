use Rattle.csp_source.proofs.SourceLaws.{source_built, source_read}
use Rattle.csp_source.proofs.laws.each_token_has_one_source.Goals as goal

pub returns-clause-built : goal.returns-clause-built
returns-clause-built c = source_built

pub returns-clause-read : goal.returns-clause-read
returns-clause-read c = source_read
