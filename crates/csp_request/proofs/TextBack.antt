-- The text of a printed check reads back.
use Rattle.std.proofs.Common.{arith, ◌≡◌, ◌∙◌, ap, List, ℕ, Some, Ok, IsUtf8}
use Rattle.std.proofs.lemmas.Str.{is_utf8-from_IsUtf8}
use Rattle.serde_json.specs.Data.{Data}
use Rattle.serde_json.specs.Read.{read}
use Rattle.serde_json.specs.Written.{compact_text}
use Rattle.csp_model.specs.Validity.{IsValidCheck}
use Rattle.csp_model.specs.declared.check.Check.{Check}
use Rattle.csp_json.specs.Json.{json_of}
use Rattle.csp_request.specs.Printed.{printed}
use Rattle.csp_request.specs.Requests.{one_check, check_in, check_of}
use Rattle.csp_request.proofs.CheckBack.{check_back}
use Rattle.csp_request.proofs.PrintedJson.{read_text, check_readable, check_depth}

-- the JSON value of bytes in UTF-8 is what they read as
pub json_back : (text : List ℕ) (value : Data) → IsUtf8 text → read text ≡ Some value
    → json_of text ≡ Some value
json_back text value utf8 reads = rw (is_utf8-from_IsUtf8 text utf8) reads

-- the text of a valid printed check reads as the check
pub text_back : (asked : Check) (text : List ℕ) → text ≡ compact_text (printed asked) → IsUtf8 text
    → IsValidCheck asked → check_of text ≡ Ok asked
text_back asked text same utf8 valid =
    let low = check_depth asked in
    let reads = ap read same ∙ read_text (printed asked) (check_readable asked valid) (omega arith) in
    ap check_in (json_back text (printed asked) utf8 reads) ∙ ap one_check (check_back asked valid)
