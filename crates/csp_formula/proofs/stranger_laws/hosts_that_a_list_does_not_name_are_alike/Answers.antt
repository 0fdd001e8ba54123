use Rattle.csp_formula.proofs.Strangers.{hosts_alike}
use Rattle.csp_formula.proofs.stranger_laws.hosts_that_a_list_does_not_name_are_alike.Goals as goal

pub returns : goal.returns
returns c = hosts_alike c.a_formula_is_what_the_policy_allows.ensures
