use Rattle.csp_model.proofs.ListLaws.{joined_allows}
use Rattle.csp_model.proofs.laws.joined_lists_allow_what_both_allow.Goals as goal

pub returns : goal.returns
returns c = joined_allows
