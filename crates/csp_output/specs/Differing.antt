-- What `differ` prints: each directive under which the first list allows more than the second, and a check that
-- shows it.
use Rattle.std.specs.Prelude.{◌≡◌, ℕ, List, [], ◌∷◌, ◌++◌, All, Ok, codes}
use Rattle.std.specs.List.{flat_map}
use Rattle.csp_compare.specs.Differences.{AreDifferences}
use Rattle.csp_compare.specs.declared.differences.Difference.{Difference}
use Rattle.csp_model.specs.Names.{name_text}
use Rattle.csp_model.specs.Validity.{IsValidCheck}
use Rattle.csp_model.specs.declared.policy.PolicyList.{PolicyList}
use Rattle.csp_output.specs.Comparisons.{description_of, shown_text}
use Rattle.csp_output.specs.declared.built.Built.{Built}
use Rattle.csp_output.specs.declared.status.Status.TheVariants.{Clean, Found}
use Rattle.csp_request.specs.Requests.{check_of}

-- the line of the directive, and the lines of `compare` on the check
abbrev pub entry_text : PolicyList → Difference → List ℕ
entry_text second entry = name_text entry.directive ++ (codes "\n" ++ shown_text second entry.check)

-- the output on differences
abbrev pub output_of : PolicyList → List Difference → Built
output_of second [] = record { status = Clean; text = codes "not weaker\n" }
output_of second (entry ∷ entries) =
    record { status = Found; text = flat_map (entry_text second) (entry ∷ entries) }

-- the description of the check reads back to it
abbrev pub IsReadBack : Difference → Type 0
IsReadBack entry = check_of (description_of entry.check) ≡ Ok entry.check

-- The output is that on the differences of the lists. Several are right, since a check may be chosen.
pub record IsDiffering (first second : PolicyList) (built : Built) : Type 0 where
  pub entries : List Difference
  pub differences : AreDifferences first second entries
  pub read_back : All IsReadBack entries
  pub printed : built ≡ output_of second entries

-- A word of private contracts
abbrev pub HasValidCheck : Difference → Type 0
HasValidCheck entry = IsValidCheck entry.check
