-- A printed check in brackets is a request file of it alone.
use Rattle.std.proofs.Common.{arith, ◌≡◌, ◌∙◌, ap, refl, ℕ, List, [], ◌∷◌, ◌++◌, Some, Ok, IsUtf8}
use Rattle.std.specs.Prelude.{option_and_then}
use Rattle.std.proofs.lemmas.Str.{IsUtf8-append}
use Rattle.json.proofs.Printed.Utf8.{IsUtf8-are_ascii}
use Rattle.serde_json.specs.Data.{Data, array, item, no_items}
use Rattle.serde_json.specs.Read.{read}
use Rattle.serde_json.specs.Written.{compact_text}
use Rattle.csp_model.specs.Validity.{IsValidCheck}
use Rattle.csp_model.specs.declared.check.Check.{Check}
use Rattle.csp_token.specs.Digests.{digests_of}
use Rattle.csp_request.specs.Described.{described_as}
use Rattle.csp_json.specs.Json.{array_of}
use Rattle.csp_request.specs.Printed.{printed, in_array, AsksFor}
use Rattle.csp_request.specs.Requests.{at_most, each_from, first_before, request_limit}
use Rattle.csp_request.proofs.CheckBack.{shown_of, check_back}
use Rattle.csp_request.proofs.PrintedJson.{IsReadable, read_text, check_readable, check_depth}
use Rattle.csp_request.proofs.TextBack.{json_back}

-- an array of a value alone
abbrev alone : Data → Data
alone value = array (item value no_items)

alone_readable : (value : Data) → IsReadable value → IsReadable (alone value)
alone_readable value readable = record { numbers = (readable.numbers, tt); json = rw readable.json refl }

bracketed : (text : List ℕ) → IsUtf8 text → IsUtf8 (in_array text)
bracketed text utf8 =
    IsUtf8-append (91 ∷ []) (text ++ 93 ∷ []) (IsUtf8-are_ascii (91 ∷ []) refl)
    (IsUtf8-append text (93 ∷ []) utf8 (IsUtf8-are_ascii (93 ∷ []) refl))

array_read : (asked : Check) → IsValidCheck asked
    → read (compact_text (alone (printed asked))) ≡ Some (alone (printed asked))
array_read asked valid =
    let low = check_depth asked in
    read_text (alone (printed asked)) (alone_readable (printed asked) (check_readable asked valid)) (omega arith)

pub file_back : (asked : Check) (text : List ℕ) → text ≡ compact_text (printed asked) → IsUtf8 text
    → IsValidCheck asked → AsksFor (in_array text) asked
file_back asked text same utf8 valid =
    let reads = ap (λ t. read (in_array t)) same ∙ array_read asked valid in
    let json = json_back (in_array text) (alone (printed asked)) (bracketed text utf8) reads in
    let found = ap (λ o. each_from digests_of 1 (at_most request_limit (option_and_then array_of o))) json
    ∙ ap (λ r. first_before 1 r (Ok [])) (check_back asked valid) in
    (described_as (asked ∷ []) (shown_of asked) [], found, refl)
