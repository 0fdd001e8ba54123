use Rattle.csp_proof.proofs.Included.{included}
use Rattle.csp_proof.proofs.ReadableSaid.{are_said}
use Rattle.csp_proof.proofs.laws.what_is_accepted_is_so.Goals as goal

pub returns : goal.returns
returns c first second proof one two accepted = included first second proof (are_said c.a_formula_is_what_the_policy_allows.ensures first second one two) accepted
