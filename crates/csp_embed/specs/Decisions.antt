-- What becomes of a response of which its embedder requires a policy (Content Security Policy: Embedded
-- Enforcement, "Is response to request blocked by embedder's policy?").
use Rattle.std.specs.Prelude.{◌≡◌, ℕ, Bool, true, false, if◌then◌else◌, IsTrue, List, [], ◌∷◌, ◌++◌, Option, Some, None, codes}
use Rattle.csp_model.specs.Inclusion.{Subsumes}
use Rattle.csp_model.specs.Validity.{IsValidCheck}
use Rattle.csp_model.specs.Verdict.{Allows, is_enforce, list_allows}
use Rattle.csp_model.specs.declared.check.Check.{Check}
use Rattle.csp_model.specs.declared.policy.Policy.{Policy}
use Rattle.csp_model.specs.declared.policy.PolicyList.{PolicyList}
use Rattle.csp_compare.specs.Answers.{IsCounterexample, IsPrinted}
use Rattle.csp_embed.specs.declared.decision.Decision.{Decision}
use Rattle.csp_embed.specs.declared.decision.Decision.TheVariants as decision

-- the policy of a list that has one, where it is enforced
abbrev pub only_enforced : List Policy → Option Policy
only_enforced (policy ∷ []) = if is_enforce policy.disposition then Some policy else None
only_enforced policies = None

-- the policy that a list requires
abbrev pub required_of : PolicyList → Option Policy
required_of list = only_enforced list.policies

-- the list of this policy alone
abbrev pub alone : Policy → PolicyList
alone policy = record { policies = policy ∷ [] }

-- the policies of a response, with a further one behind them
abbrev pub with_added : PolicyList → Policy → PolicyList
with_added response policy = record { policies = response.policies ++ policy ∷ [] }

-- Where the response allows blanket enforcement, the required policy is added to its own. Where it doesn't,
-- it is served if its own policies are at least as strict, which a proof shows; and else it is refused for a
-- check that they allow and the required policy blocks.
abbrev pub IsDecision : Bool → Policy → PolicyList → Decision → Type 0
IsDecision true required response (decision.Added list) = list ≡ with_added response required
IsDecision false required response (decision.Served proof) =
    IsPrinted response (alone required) proof × Subsumes response (alone required)
IsDecision false required response (decision.Refused asked) =
    IsCounterexample response (alone required) asked
IsDecision allowed required response other = ⊥

-- a decision as it is printed
abbrev pub decision_text : Decision → List ℕ
decision_text (decision.Added list) = codes "added"
decision_text (decision.Served proof) = codes "served"
decision_text (decision.Refused asked) = codes "refused"

-- the policies that are enforced on the response, where its page is shown
abbrev pub enforced_list : PolicyList → Decision → Option PolicyList
enforced_list response (decision.Added list) = Some list
enforced_list response (decision.Served proof) = Some response
enforced_list response (decision.Refused asked) = None

-- every valid check that the list allows the policy allows
abbrev pub Upholds : PolicyList → Policy → Type 0
Upholds list policy =
    (asked : Check) → IsValidCheck asked → IsTrue (list_allows list asked) → Allows policy asked
