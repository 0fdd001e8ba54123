-- Words of the laws: where what is told of an item stands.
use Rattle.std.specs.Prelude.{◌≡◌, ℕ, List, [], ◌∷◌, ◌++◌, Contains, codes, decimal}
use Rattle.csp_model.specs.Names.{name_text}
use Rattle.csp_model.specs.Verdict.{items_of}
use Rattle.csp_model.specs.declared.check.Check.{Check}
use Rattle.csp_model.specs.declared.name.Name.{Name}
use Rattle.csp_model.specs.declared.policy.Disposition.{Disposition}
use Rattle.csp_model.specs.declared.policy.Policy.{Policy}
use Rattle.csp_model.specs.declared.policy.PolicyList.{PolicyList}
use Rattle.csp_model.specs.declared.verdict.Item.{Item}
use Rattle.csp_output.specs.Explanations.{check_text, governing_tokens, joined, missing_text, near_text, reasons_text, refusal_text}
use Rattle.csp_why.specs.Missing.{missing_url}
use Rattle.csp_why.specs.declared.reason.Near.{Near}
use Rattle.csp_why.specs.declared.reason.Reason.TheVariants.{Blocks}

-- the piece stands in the text
pub record StandsIn (piece text : List ℕ) : Type 0 where
  pub before : List ℕ
  pub after : List ℕ
  pub whole : text ≡ before ++ (piece ++ after)

-- the line that says of the policy of this number that this directive blocks, or would block
abbrev pub refusal_line : ℕ → Disposition → Name → List ℕ
refusal_line number disposition directive =
    joined (codes "  " ∷ decimal number ∷ codes " " ∷ name_text directive ∷ refusal_text disposition ∷ [])

-- the line that says of this policy, which only reports, that the directive would block
abbrev pub would_block_line : ℕ → Name → List ℕ
would_block_line number directive =
    joined (codes "  " ∷ decimal number ∷ codes " " ∷ name_text directive ∷ codes " would block\n" ∷ [])

-- what stands below the line of a policy that doesn't allow the check: near tokens, or what is missing
abbrev pub told_below : Policy → Check → Name → List Near → List ℕ
told_below p asked directive near =
    near_text (governing_tokens p asked) near
    ++ missing_text (Blocks directive near) (missing_url p asked (Blocks directive near))

-- the item is of a check that is told, and what is told of this check has the line of the item's policy
pub record IsExplained (list : PolicyList) (checks : List Check) (item : Item) : Type 0 where
  pub asked : Check
  pub of_check : Contains (items_of list asked) item
  pub told : StandsIn (check_text list.policies asked) (reasons_text list checks)
  pub line : StandsIn (refusal_line item.policy item.disposition item.governing) (check_text list.policies asked)
