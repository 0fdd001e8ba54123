use Rattle.csp_why.proofs.Mended.{told_mended}
use Rattle.csp_why.proofs.laws.a_near_token_allows_where_its_word_is_mended.Goals as goal

pub returns : goal.returns
returns c = told_mended
