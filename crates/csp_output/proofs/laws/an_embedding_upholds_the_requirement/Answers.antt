use Rattle.csp_output.proofs.OneEmbedding.{upheld}
use Rattle.csp_output.proofs.laws.an_embedding_upholds_the_requirement.Goals as goal

pub returns : goal.returns
returns c = upheld c.what_is_enforced_upholds_the_requirement.ensures
