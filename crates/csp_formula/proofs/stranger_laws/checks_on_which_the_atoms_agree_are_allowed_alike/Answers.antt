use Rattle.csp_formula.proofs.AlikeChecks.{allowed_alike}
use Rattle.csp_formula.proofs.stranger_laws.checks_on_which_the_atoms_agree_are_allowed_alike.Goals as goal

pub returns : goal.returns
returns c = allowed_alike c.a_formula_is_what_the_policy_allows.ensures
