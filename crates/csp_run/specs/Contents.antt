-- What files hold.
use Rattle.std.specs.Prelude.{ℕ, List}
use Rattle.csp_model.specs.declared.policy.Policy.{Policy}
use Rattle.csp_model.specs.declared.policy.PolicyList.{PolicyList}

-- what a file holds
pub data Content : Type 0 where
  -- the policies of a policy file
  Policies : PolicyList → Content
  -- the bytes of a request file, whose descriptions are read while they are judged
  Requests : List ℕ → Content
  -- the bytes of a proof file, which are read where the proof is checked
  Proof : List ℕ → Content
  -- the enforced policy that is all of a policy file
  Required : Policy → Content
  -- the bytes of a header block, and its policies
  Response : List ℕ → PolicyList → Content
  -- the bytes of a header block of which each piece is told
  Block : List ℕ → Content
