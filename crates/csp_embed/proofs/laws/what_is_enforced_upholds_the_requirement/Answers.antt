use Rattle.csp_embed.proofs.Upholding.{upheld}
use Rattle.csp_embed.proofs.laws.what_is_enforced_upholds_the_requirement.Goals as goal

pub returns : goal.returns
returns c = upheld c.what_is_allowed_is_decided.ensures c.joined_lists_allow_what_both_allow.ensures
