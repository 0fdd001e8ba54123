-- What `embed` prints: what becomes of a response of which its embedder requires a policy.
use Rattle.std.specs.Prelude.{◌≡◌, ◌==◌, ◌⊎◌, ℕ, List, ◌++◌, codes, take}
use Rattle.std.specs.List.{position_or_len}
use Rattle.csp_model.specs.Ascii.{code}
use Rattle.csp_model.specs.Policies.{policy_text}
use Rattle.csp_model.specs.declared.policy.Policy.{Policy}
use Rattle.csp_model.specs.declared.policy.PolicyList.{PolicyList}
use Rattle.csp_model.specs.declared.url.Origin.{Origin}
use Rattle.csp_embed.specs.AllowFrom.{AllowsBlanketEnforcement}
use Rattle.csp_embed.specs.Decisions.{alone, with_added}
use Rattle.csp_output.specs.Comparisons.{IsComparison}
use Rattle.csp_output.specs.declared.built.Built.{Built}
use Rattle.csp_output.specs.declared.status.Status.{Status}
use Rattle.csp_output.specs.declared.status.Status.TheVariants.{Clean}

-- the output where the required policy is added
abbrev pub added_output : Policy → Built
added_output required = record {
  status = Clean;
  text = codes "added\n" ++ (policy_text required ++ codes "\n");
}

-- how an answer of `compare` with this status is called
abbrev pub answer_word : Status → List ℕ
answer_word Clean = codes "served\n"
answer_word status = codes "refused\n"

-- The line with the kind of an answer, and behind it the answer of `compare` on the response's policies and
-- the required policy alone.
pub record IsOwnAnswer (required : Policy) (response : PolicyList) (built : Built) : Type 0 where
  pub compared : Built
  pub answer : IsComparison response (alone required) compared
  pub status : built.status ≡ compared.status
  pub text : built.text ≡ answer_word compared.status ++ compared.text

-- The output for this embedder and the policy that it requires, and for a response of this header block and
-- these policies.
abbrev pub IsEmbedding : Origin → Policy → List ℕ → PolicyList → Built → Type 0
IsEmbedding embedder required block response built =
    (AllowsBlanketEnforcement block embedder × (built ≡ added_output required))
    ⊎ ((AllowsBlanketEnforcement block embedder → ⊥) × IsOwnAnswer required response built)

-- the policies that are enforced on the response, where it is shown
abbrev pub IsEnforcedList : Origin → Policy → List ℕ → PolicyList → PolicyList → Type 0
IsEnforcedList embedder required block response list =
    (AllowsBlanketEnforcement block embedder × (list ≡ with_added response required))
    ⊎ ((AllowsBlanketEnforcement block embedder → ⊥) × (list ≡ response))

-- a text up to its first line feed
abbrev pub first_line : List ℕ → List ℕ
first_line text = take (position_or_len (λ c. c == code "\n") text) text
