use Rattle.csp_token.proofs.NamedDigests.{agreeing_match, wanted_match}
use Rattle.csp_token.proofs.laws.only_named_algorithms_count.Goals as goal

pub returns-clause-agreeing : goal.returns-clause-agreeing
returns-clause-agreeing c = agreeing_match

pub returns-clause-wanted : goal.returns-clause-wanted
returns-clause-wanted c = wanted_match
