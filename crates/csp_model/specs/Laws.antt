-- Words of the laws.
use Rattle.std.specs.Prelude.{◌≡◌, All, Some, slice_get}
use Rattle.csp_model.specs.Verdict.{Allows, effective_name}
use Rattle.csp_model.specs.Types.{Check, Policy, PolicyList, Item}
use Rattle.csp_model.specs.declared.policy.Disposition.TheVariants.{Enforce}

-- each enforced policy of the list allows the check
abbrev pub EnforcedAllow : PolicyList → Check → Type 0
EnforcedAllow list asked = All (λ (p : Policy). p.disposition ≡ Enforce → Allows p asked) list.policies

-- the item speaks of the policy of its number, which doesn't allow the check
pub record IsRefusal (list : PolicyList) (asked : Check) (item : Item) : Type 0 where
  pub policy : Policy
  pub at : slice_get list.policies item.policy ≡ Some policy
  pub refuses : ¬ Allows policy asked
  pub disposition : item.disposition ≡ policy.disposition
  pub effective : item.effective ≡ effective_name asked
