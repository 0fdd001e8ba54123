-- The violation for an item of a check, and what a law says of it.
use Rattle.std.specs.Prelude.{◌≡◌, ⊤, Bool, true, false, not, List, [], ◌∷◌, Option, Some, slice_get}
use Rattle.std.specs.Option.{option_map}
use Rattle.csp_model.specs.Policies.{policy_text}
use Rattle.csp_model.specs.Verdict.{violation_of}
use Rattle.csp_model.specs.declared.check.Check.{Check}
use Rattle.csp_model.specs.declared.name.Name.{Name}
use Rattle.csp_model.specs.declared.name.Name.TheVariants.{Sandbox}
use Rattle.csp_model.specs.declared.policy.Policy.{Policy}
use Rattle.csp_model.specs.declared.policy.PolicyList.{PolicyList}
use Rattle.csp_model.specs.declared.verdict.Described.{Described}
use Rattle.csp_model.specs.declared.verdict.Item.{Item}
use Rattle.csp_model.specs.declared.verdict.Violation.{Violation}

-- the violation for an item, by the policy of its number
abbrev pub violation_at : List Policy → Described → Check → Item → Option Violation
violation_at policies described asked item =
    option_map (violation_of described asked item) (slice_get policies item.policy)

abbrev pub is_sandbox : Name → Bool
is_sandbox Sandbox = true
is_sandbox name = false

-- an item of a sandbox makes no report
abbrev pub makes_report : Item → Bool
makes_report item = not (is_sandbox item.effective)

-- a violation is that of an item: of its policy and its directive
pub record IsOf (list : PolicyList) (item : Item) (violation : Violation) : Type 0 where
  pub disposition : violation.disposition ≡ item.disposition
  pub effective : violation.effective ≡ item.effective
  pub policy : option_map policy_text (slice_get list.policies item.policy) ≡ Some violation.policy

-- violations are those of items, one for each, in their order
abbrev pub AreOf : PolicyList → List Item → List Violation → Type 0
AreOf list [] [] = ⊤
AreOf list (item ∷ items) (violation ∷ violations) = IsOf list item violation × AreOf list items violations
AreOf list items violations = ⊥
