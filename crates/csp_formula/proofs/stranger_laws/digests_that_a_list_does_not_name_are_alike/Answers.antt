use Rattle.csp_formula.proofs.Strangers.{digests_alike}
use Rattle.csp_formula.proofs.stranger_laws.digests_that_a_list_does_not_name_are_alike.Goals as goal

pub returns : goal.returns
returns c = digests_alike c.a_formula_is_what_the_policy_allows.ensures
