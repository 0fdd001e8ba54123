-- What a checker is asked.
use Rattle.csp_model.specs.declared.policy.PolicyList.{PolicyList}
use Rattle.csp_proof.specs.declared.proof.Proof.{Proof}

-- whether this proof shows that the second list allows what the first allows
pub record Claim : Type 0 where
  pub first : PolicyList
  pub second : PolicyList
  pub proof : Proof
