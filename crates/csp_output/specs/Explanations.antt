-- What `why` prints: the line of each verdict, and behind it the reasons.
use Rattle.std.specs.Prelude.{ℕ, ◌+◌, ◌-◌, length, Bool, not, ◌||◌, if◌then◌else◌, List, [], ◌∷◌, ◌++◌, Option, Some, None, unwrap_or, slice_get, codes, decimal}
use Rattle.std.specs.List.{cons_option, filter, flat_map, list_any}
use Rattle.std.specs.Option.{option_map}
use Rattle.csp_model.specs.Ascii.{is_nonempty}
use Rattle.csp_model.specs.DecideVerdict.{allows}
use Rattle.csp_model.specs.Governing.{Governor, governor}
use Rattle.csp_model.specs.Names.{name_text}
use Rattle.csp_model.specs.Parts.{checked_url}
use Rattle.csp_model.specs.Paths.{host_text}
use Rattle.csp_model.specs.Schemes.{scheme_text}
use Rattle.csp_model.specs.Verdict.{effective_name, judged_checks, verdict_of}
use Rattle.csp_model.specs.declared.check.Check.{Check}
use Rattle.csp_model.specs.declared.name.Name.{Name}
use Rattle.csp_model.specs.declared.policy.Disposition.{Disposition}
use Rattle.csp_model.specs.declared.policy.Disposition.TheVariants.{Enforce, Report}
use Rattle.csp_model.specs.declared.policy.Policy.{Policy}
use Rattle.csp_model.specs.declared.policy.PolicyList.{PolicyList}
use Rattle.csp_model.specs.declared.url.Url.{Url}
use Rattle.csp_model.specs.declared.url.Url.TheVariants as url
use Rattle.csp_model.specs.declared.verdict.Described.{Described}
use Rattle.csp_output.specs.Lines.{verdict_line}
use Rattle.csp_output.specs.declared.built.Built.{Built}
use Rattle.csp_output.specs.declared.status.Status.{Status}
use Rattle.csp_output.specs.declared.status.Status.TheVariants.{Clean, Found}
use Rattle.csp_url.specs.Texts.{url_text}
use Rattle.csp_why.specs.Missing.{missing_url}
use Rattle.csp_why.specs.Reasons.{reason}
use Rattle.csp_why.specs.Words.{rule_text, word_text}
use Rattle.csp_why.specs.declared.reason.Near.{Near}
use Rattle.csp_why.specs.declared.reason.Reason.{Reason}
use Rattle.csp_why.specs.declared.reason.Reason.TheVariants.{Ungoverned, Allows, Blocks}
use Rattle.csp_why.specs.declared.reason.Obstacle.{Obstacle}

-- some policy doesn't allow the check, so that the verdict has an item for it
abbrev pub is_refused : PolicyList → Check → Bool
is_refused list asked = list_any (λ p. not (allows p asked)) list.policies

-- the checks that were judged and that some policy doesn't allow
abbrev pub refused_checks : PolicyList → List Check → List Check
refused_checks list checks = filter (is_refused list) (judged_checks list checks)

abbrev pub last_of : List Check → List Check
last_of checks = cons_option (slice_get checks (length checks - 1)) []

-- the checks that are told: each that some policy doesn't allow, or else the last
abbrev pub told_checks : PolicyList → List Check → List Check
told_checks list checks =
    if is_nonempty (refused_checks list checks) then refused_checks list checks else last_of checks

-- a token of the directive that governs, as it stands in the policy
abbrev pub governing_tokens : Policy → Check → List (List ℕ)
governing_tokens policy asked =
    unwrap_or (option_map (λ (g : Governor). g.directive.tokens) (governor policy (effective_name asked))) []

abbrev pub token_at : List (List ℕ) → ℕ → List ℕ
token_at tokens index = unwrap_or (slice_get tokens index) []

abbrev pub joined : List (List ℕ) → List ℕ
joined pieces = flat_map (λ piece. piece) pieces

-- a line for each near token
abbrev pub near_line : List ℕ → Obstacle → List ℕ
near_line token word = codes "    " ++ (token ++ joined (codes " " ∷ word_text word ∷ codes "\n" ∷ []))

abbrev pub near_text : List (List ℕ) → List Near → List ℕ
near_text tokens near = flat_map (λ n. near_line (token_at tokens n.token) n.word) near

-- what a policy that doesn't allow a check does
abbrev pub refusal_text : Disposition → List ℕ
refusal_text Enforce = codes " blocks\n"
refusal_text Report = codes " would block\n"

-- what stands behind a policy's number
abbrev pub reason_text : Disposition → List (List ℕ) → Reason → List ℕ
reason_text disposition tokens Ungoverned = codes "- allows\n"
reason_text disposition tokens (Allows directive by) =
    joined (name_text directive ∷ codes " allows " ∷ rule_text by.rule ∷ codes " " ∷ [])
    ++ (token_at tokens by.token ++ codes "\n")
reason_text disposition tokens (Blocks directive near) =
    joined (name_text directive ∷ refusal_text disposition ∷ []) ++ near_text tokens near

-- the token of the source of a URL
abbrev pub port_pieces : Option ℕ → List (List ℕ)
port_pieces None = []
port_pieces (Some port) = codes ":" ∷ decimal port ∷ []

abbrev pub source_pieces : Url → List (List ℕ)
source_pieces (url.Plain scheme) = scheme ∷ codes ":" ∷ []
source_pieces (url.Hosted scheme host port path) =
    scheme_text scheme ∷ codes "://" ∷ host_text host ∷ port_pieces port

-- a line for the source that is missing
abbrev pub missing_line : Name → Url → List ℕ
missing_line directive there =
    codes "    add " ++ (joined (source_pieces there) ++ joined (codes " to " ∷ name_text directive ∷ codes "\n" ∷ []))

abbrev pub missing_text : Reason → Option Url → List ℕ
missing_text (Blocks directive near) (Some there) = missing_line directive there
missing_text why there = []

-- the lines of the policy of this number
abbrev pub policy_text : ℕ → Policy → Check → List ℕ
policy_text number policy asked =
    joined (codes "  " ∷ decimal number ∷ codes " " ∷ [])
    ++ (reason_text policy.disposition (governing_tokens policy asked) (reason policy asked)
    ++ missing_text (reason policy asked) (missing_url policy asked (reason policy asked)))

abbrev pub policies_from : ℕ → List Policy → Check → List ℕ
policies_from number [] asked = []
policies_from number (p ∷ ps) asked = policy_text number p asked ++ policies_from (number + 1) ps asked

abbrev pub url_text_of : Option Url → List ℕ
url_text_of None = []
url_text_of (Some there) = joined (codes "  url " ∷ url_text there ∷ codes "\n" ∷ [])

abbrev pub told_url : Check → List ℕ
told_url asked = url_text_of (checked_url asked)

-- the URL of a check that is told, and the lines of each policy
abbrev pub check_text : List Policy → Check → List ℕ
check_text policies asked = told_url asked ++ policies_from 0 policies asked

abbrev pub checks_text : List Policy → List Check → List ℕ
checks_text policies checks = flat_map (check_text policies) checks

-- what is told of a request
abbrev pub reasons_text : PolicyList → List Check → List ℕ
reasons_text list checks = checks_text list.policies (told_checks list checks)

-- Requests

-- what is printed of the request of this number
abbrev pub request_text : PolicyList → ℕ → List Check → List ℕ
request_text list number checks = verdict_line number (verdict_of list checks) ++ reasons_text list checks

-- what is printed of requests, of which the first has this number
abbrev pub explained_from : ℕ → PolicyList → List Described → List ℕ
explained_from number list [] = []
explained_from number list (d ∷ ds) = request_text list number d.checks ++ explained_from (number + 1) list ds

abbrev pub is_blocked : PolicyList → Described → Bool
is_blocked list d = (verdict_of list d.checks).blocked

abbrev pub blocked_status : Bool → Status
blocked_status blocked = if blocked then Found else Clean

-- the output of `why` for these requests
abbrev pub explanation : PolicyList → List Described → Built
explanation list requests = record {
  status = blocked_status (list_any (is_blocked list) requests);
  text = explained_from 1 list requests;
}

-- what is explained of some requests: whether one of them is blocked, and the text
pub record Explained : Type 0 where
  pub list : PolicyList
  pub blocked : Bool
  pub text : List ℕ

abbrev pub with_request : Explained → ℕ → List Check → Explained
with_request so_far number checks = record {
  list = so_far.list;
  blocked = so_far.blocked || (verdict_of so_far.list checks).blocked;
  text = so_far.text ++ request_text so_far.list number checks;
}
