-- What `compare` prints: a proof that the second list allows what the first allows, or a check that shows
-- that it doesn't.
use Rattle.std.specs.Prelude.{◌≡◌, ℕ, List, [], ◌∷◌, ◌++◌, Option, Some, None, Ok, codes}
use Rattle.std.specs.List.{flat_map}
use Rattle.serde_json.specs.Written.{compact_text}
use Rattle.csp_compare.specs.Answers.{IsPrinted, IsCounterexample}
use Rattle.csp_model.specs.Inclusion.{Subsumes}
use Rattle.csp_model.specs.Parts.{checked_url}
use Rattle.csp_model.specs.Verdict.{verdict_of}
use Rattle.csp_model.specs.declared.check.Check.{Check}
use Rattle.csp_model.specs.declared.policy.PolicyList.{PolicyList}
use Rattle.csp_model.specs.declared.url.Url.{Url}
use Rattle.csp_request.specs.Printed.{printed}
use Rattle.csp_proof.specs.Texts.{IsTextOf}
use Rattle.csp_proof.specs.declared.proof.Proof.{Proof}
use Rattle.csp_request.specs.Requests.{check_of}
use Rattle.csp_url.specs.Texts.{url_text}
use Rattle.csp_output.specs.declared.built.Built.{Built}
use Rattle.csp_output.specs.declared.status.Status.{Status}
use Rattle.csp_output.specs.declared.status.Status.TheVariants.{Clean, Found}
use Rattle.csp_output.specs.Lines.{item_text}

-- The second list allows what the first allows, and the text is that of a proof of it: one of the second
-- format, accepted, in which no two trees have equal nodes of their own.
pub record IsInclusion (first second : PolicyList) (text : List ℕ) : Type 0 where
  pub subsumes : Subsumes first second
  pub proof : Proof
  pub spelled : IsTextOf proof text
  pub printed : IsPrinted first second proof

-- the check as a description in JSON
abbrev pub description_of : Check → List ℕ
description_of asked = compact_text (printed asked)

-- the line of a check's URL, where it has one
abbrev pub url_line : Option Url → List ℕ
url_line None = []
url_line (Some there) = codes "url " ++ (url_text there ++ codes "\n")

-- what the list blocks of a check: the items of its verdict
abbrev pub blocked_text : PolicyList → Check → List ℕ
blocked_text list asked =
    codes "second blocked" ++ (flat_map item_text (verdict_of list (asked ∷ [])).items ++ codes "\n")

-- the lines on a check that the second list blocks
abbrev pub shown_text : PolicyList → Check → List ℕ
shown_text second asked =
    (description_of asked ++ codes "\n") ++ (url_line (checked_url asked) ++ blocked_text second asked)

abbrev pub difference_text : PolicyList → Check → List ℕ
difference_text second asked = codes "not subsumed\n" ++ shown_text second asked

-- The text shows a valid check that the first list allows and the second blocks. The description reads back
-- to the check.
pub record IsDifference (first second : PolicyList) (text : List ℕ) : Type 0 where
  pub asked : Check
  pub differs : IsCounterexample first second asked
  pub read_back : check_of (description_of asked) ≡ Ok asked
  pub spelled : text ≡ difference_text second asked

-- an answer of `compare` with this status
abbrev pub IsAnswerWith : Status → PolicyList → PolicyList → List ℕ → Type 0
IsAnswerWith Clean first second text = IsInclusion first second text
IsAnswerWith Found first second text = IsDifference first second text
IsAnswerWith status first second text = ⊥

-- The output is an answer. Several are right: a proof may be made in many ways, and a check chosen.
abbrev pub IsComparison : PolicyList → PolicyList → Built → Type 0
IsComparison first second built = IsAnswerWith built.status first second built.text
