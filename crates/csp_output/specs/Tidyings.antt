-- What `tidy` prints: an equivalent list from which no token can be taken, and what shows that it is one.
use Rattle.std.specs.Prelude.{◌≡◌, ℕ, Bool, if◌then◌else◌, List, [], ◌++◌, Option, Some, None, All, Ok, slice_get, codes, decimal}
use Rattle.std.specs.List.{flat_map}
use Rattle.csp_model.specs.declared.policy.Directive.{Directive}
use Rattle.csp_model.specs.declared.policy.Policy.{Policy}
use Rattle.csp_model.specs.declared.policy.PolicyList.{PolicyList}
use Rattle.csp_policy.specs.HeaderLines.{header_lines}
use Rattle.csp_proof.specs.Spelling.{proof_text}
use Rattle.csp_request.specs.Requests.{check_of}
use Rattle.csp_tidy.specs.Tidied.{IsTidied}
use Rattle.csp_tidy.specs.declared.tidying.Needed.{Needed}
use Rattle.csp_tidy.specs.declared.tidying.Tidied.{Tidied}
use Rattle.csp_output.specs.Comparisons.{description_of}
use Rattle.csp_output.specs.declared.built.Built.{Built}
use Rattle.csp_output.specs.declared.status.Status.TheVariants.{Clean}

-- which list allows the check: the one with the token, or the one without it
abbrev pub which_allows : Bool → List ℕ
which_allows allowed_with = if allowed_with then codes " with\n" else codes " without\n"

abbrev pub line_with_token : Needed → Directive → Option (List ℕ) → List ℕ
line_with_token needed d None = []
line_with_token needed d (Some token) =
    codes "needed " ++ (decimal needed.policy ++ (codes " " ++ (d.name ++ (codes " " ++ (token
    ++ which_allows needed.allowed_with)))))

abbrev pub line_in_directive : Needed → Option Directive → List ℕ
line_in_directive needed None = []
line_in_directive needed (Some d) = line_with_token needed d (slice_get d.tokens needed.token)

abbrev pub line_in_policy : Needed → Option Policy → List ℕ
line_in_policy needed None = []
line_in_policy needed (Some p) = line_in_directive needed (slice_get p.directives needed.directive)

-- the line of a token of the list that stays, as "needed 0 img-src https: with"
abbrev pub needed_line : PolicyList → Needed → List ℕ
needed_line list needed = line_in_policy needed (slice_get list.policies needed.policy)

-- the line of the token, and that of the check
abbrev pub reason_text : PolicyList → Needed → List ℕ
reason_text list needed = needed_line list needed ++ (description_of needed.check ++ codes "\n")

-- a line for each policy, why each token stays, and the proof of each inclusion
abbrev pub tidied_text : Tidied → List ℕ
tidied_text tidied =
    codes "tidied\n" ++ (header_lines tidied.list.policies
    ++ (flat_map (reason_text tidied.list) tidied.needed
    ++ ((codes "input to output\n" ++ proof_text tidied.forward)
    ++ (codes "output to input\n" ++ proof_text tidied.backward))))

-- the description of the check reads back to the check
abbrev pub IsReadBack : Needed → Type 0
IsReadBack needed = check_of (description_of needed.check) ≡ Ok needed.check

-- The text is that of a list from which no token can be taken, and of what shows it. Several are right: there
-- may be many such lists, a check may be chosen, and a proof be made in many ways.
pub record IsTidying (list : PolicyList) (built : Built) : Type 0 where
  pub tidied : Tidied
  pub is : IsTidied list tidied
  pub read_back : All IsReadBack tidied.needed
  pub status : built.status ≡ Clean
  pub text : built.text ≡ tidied_text tidied
