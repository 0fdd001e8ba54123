-- A report is its front and its ending.
use Rattle.std.proofs.Common.{◌≡◌, ℕ, false, List, ◌∷◌, ◌++◌, refl, codes, append_assoc, append-nil}
use Rattle.json.specs.Print.{escape_byte, quoted, print_from}
use Rattle.json.specs.Token.{begin_object}
use Rattle.json.proofs.Printed.Tokens.{print_from-append}
use Rattle.csp_model.specs.declared.verdict.Violation.{Violation}
use Rattle.csp_desk.specs.Report.{ending_tokens, member_tokens, report_bytes, report_front, report_ending}

pub report_parts : (v : Violation)
    → report_bytes v ≡ report_front v.blocked_uri ++ report_ending v.disposition v.effective v.policy v.sample
unfolding report_bytes report_front report_ending print_from
report_parts v =
    print_from-append false (begin_object ∷ member_tokens (codes "blocked-uri") v.blocked_uri)
    (ending_tokens v.disposition v.effective v.policy v.sample)

-- both behind a text
pub parts_behind : (old front ending now : List ℕ) (v : Violation) → front ≡ old ++ report_front v.blocked_uri
    → ending ≡ report_ending v.disposition v.effective v.policy v.sample → now ≡ front ++ ending
    → now ≡ old ++ report_bytes v
parts_behind old front ending now v begun is ended =
    rw (ended, begun, is, report_parts v) (append_assoc old (report_front v.blocked_uri) _)

pub report_front-literal : (blocked_uri : List ℕ)
    → report_front blocked_uri ≡ codes "{\"blocked-uri\":" ++ quoted blocked_uri
unfolding report_front print_from escape_byte
report_front-literal blocked_uri = rw (append-nil (quoted blocked_uri)) refl
