-- What `judge` prints: a line for each request.
use Rattle.std.specs.Prelude.{ℕ, ◌+◌, Bool, if◌then◌else◌, List, [], ◌∷◌, ◌++◌, map, codes, decimal}
use Rattle.std.specs.List.{flat_map, list_any}
use Rattle.csp_model.specs.Ascii.{code}
use Rattle.csp_model.specs.Names.{name_text, disposition_text}
use Rattle.csp_model.specs.Verdict.{verdict_of}
use Rattle.csp_model.specs.declared.check.Check.{Check}
use Rattle.csp_model.specs.declared.policy.PolicyList.{PolicyList}
use Rattle.csp_model.specs.declared.verdict.Item.{Item}
use Rattle.csp_model.specs.declared.verdict.Verdict.{Verdict}
use Rattle.csp_output.specs.declared.built.Built.{Built}
use Rattle.csp_output.specs.declared.status.Status.{Status}
use Rattle.csp_output.specs.declared.status.Status.TheVariants.{Clean, Found}

-- as " 0:enforce:script-src-elem/default-src"
abbrev pub item_pieces : Item → List (List ℕ)
item_pieces item =
    codes " " ∷ decimal item.policy ∷ codes ":" ∷ disposition_text item.disposition ∷ codes ":"
    ∷ name_text item.effective ∷ codes "/" ∷ name_text item.governing ∷ []

unfoldable pub item_text : Item → List ℕ
item_text item = flat_map (λ piece. piece) (item_pieces item)

abbrev pub outcome_text : Bool → List ℕ
outcome_text blocked = if blocked then codes " blocked" else codes " allowed"

-- the line of the request of this number: "1 blocked", the items, and a line feed
abbrev pub verdict_line : ℕ → Verdict → List ℕ
verdict_line request verdict =
    decimal request ++ (outcome_text verdict.blocked ++ (flat_map item_text verdict.items ++ code "\n" ∷ []))

abbrev pub lines_from : ℕ → List Verdict → List ℕ
lines_from request [] = []
lines_from request (v ∷ vs) = verdict_line request v ++ lines_from (request + 1) vs

abbrev pub judged_status : List Verdict → Status
judged_status verdicts = if list_any (λ (v : Verdict). v.blocked) verdicts then Found else Clean

-- the output of `judge` for these requests
abbrev pub judgment_of : List Verdict → Built
judgment_of verdicts = record { status = judged_status verdicts; text = lines_from 1 verdicts }

abbrev pub judgment : PolicyList → List (List Check) → Built
judgment list requests = judgment_of (map (verdict_of list) requests)
