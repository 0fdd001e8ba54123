-- What `check` prints.
use Rattle.std.specs.Prelude.{◌≡◌, ℕ, List, ◌++◌, Option, Some, None, codes, decimal}
use Rattle.csp_model.specs.declared.policy.PolicyList.{PolicyList}
use Rattle.csp_proof.specs.Accepts.{first_bad_node}
use Rattle.csp_proof.specs.Texts.{IsTextOf}
use Rattle.csp_proof.specs.declared.proof.Proof.{Proof}
use Rattle.csp_output.specs.declared.built.Built.{Built}
use Rattle.csp_output.specs.declared.status.Status.TheVariants.{Clean, Found}

-- the output on a proof that breaks no rule, or breaks one first in this line
abbrev pub checked : Option ℕ → Built
checked None = record { status = Clean; text = codes "accepted\n" }
checked (Some line) = record { status = Found; text = codes "rejected " ++ (decimal line ++ codes "\n") }

-- the text is that of a proof, and this is the output on it
pub record IsChecked (first second : PolicyList) (text : List ℕ) (built : Built) : Type 0 where
  pub proof : Proof
  pub spelled : IsTextOf proof text
  pub output : built ≡ checked (first_bad_node first second proof)
