-- The report of a violation (Content Security Policy Level 3, section 5.3).
use Rattle.std.specs.Prelude.{ℕ, List, [], ◌∷◌, ◌++◌, codes}
use Rattle.json.specs.Json.{Json, string, object, Members, no_members, member}
use Rattle.json.specs.Print.{print}
use Rattle.json.specs.Token as token
use Rattle.json.specs.Tree.{json_tokens}
use Rattle.csp_model.specs.Ascii.{code}
use Rattle.csp_model.specs.Names.{name_text, disposition_text}
use Rattle.csp_model.specs.declared.name.Name.{Name}
use Rattle.csp_model.specs.declared.policy.Disposition.{Disposition}
use Rattle.csp_model.specs.declared.verdict.Violation.{Violation}

-- what a report says, in this order
abbrev pub report_members : Violation → Members
report_members v =
    member (codes "blocked-uri") (string v.blocked_uri)
    (member (codes "disposition") (string (disposition_text v.disposition))
    (member (codes "effective-directive") (string (name_text v.effective))
    (member (codes "original-policy") (string v.policy)
    (member (codes "script-sample") (string v.sample)
    (member (codes "violated-directive") (string (name_text v.effective))
    no_members)))))

abbrev pub report_value : Violation → Json
report_value v = object (report_members v)

-- the bytes of a report: its JSON with no space
unfoldable pub report_bytes : Violation → List ℕ
report_bytes v = print (json_tokens (report_value v))

-- the tokens of a member
abbrev pub member_tokens : List ℕ → List ℕ → List token.Token
member_tokens name value = token.key name ∷ token.string value ∷ []

-- The front of a report, which tells what is blocked, and its ending, which tells the rest. What is blocked
-- makes no difference to the ending.

unfoldable pub report_front : List ℕ → List ℕ
report_front blocked_uri = print (token.begin_object ∷ member_tokens (codes "blocked-uri") blocked_uri)

abbrev pub ending_tokens : Disposition → Name → List ℕ → List ℕ → List token.Token
ending_tokens disposition effective policy sample =
    member_tokens (codes "disposition") (disposition_text disposition)
    ++ (member_tokens (codes "effective-directive") (name_text effective)
    ++ (member_tokens (codes "original-policy") policy
    ++ (member_tokens (codes "script-sample") sample
    ++ (member_tokens (codes "violated-directive") (name_text effective)
    ++ token.end_object ∷ []))))

unfoldable pub report_ending : Disposition → Name → List ℕ → List ℕ → List ℕ
report_ending disposition effective policy sample =
    code "," ∷ print (ending_tokens disposition effective policy sample)
