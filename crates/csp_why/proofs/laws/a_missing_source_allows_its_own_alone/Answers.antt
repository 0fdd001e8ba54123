use Rattle.csp_why.proofs.MissingSource.{missing_allows, missing_no_more}
use Rattle.csp_why.proofs.laws.a_missing_source_allows_its_own_alone.Goals as goal

pub returns-clause-allows : goal.returns-clause-allows
returns-clause-allows c = missing_allows

pub returns-clause-no_more : goal.returns-clause-no_more
returns-clause-no_more c = missing_no_more
