use Rattle.csp_formula.proofs.PolicySaid.{policy_said}
use Rattle.csp_formula.proofs.laws.a_formula_is_what_the_policy_allows.Goals as goal

pub returns : goal.returns
returns c policy kind hashes asked readable has valid shaped =
    policy_said c.each_token_has_one_source.ensures.read policy hashes readable has asked kind valid shaped
