use Rattle.std.proofs.Common.{◌≡◌, ◌∙◌, ◌∷◌, length, Some, None, true, false, IsUtf8, refl, sym, ap}
use Rattle.std.specs.Prelude.{option_and_then}
use Rattle.json.specs.Json.{value}
use Rattle.json.specs.Lex.{tokens}
use Rattle.csp_json.specs.Arrays.{begins_array}
use Rattle.csp_json.specs.Json.{array_of}
use Rattle.csp_json.proofs.Grammar.{whole}
use Rattle.csp_json.proofs.Items.{array_begun, no_array}
use Rattle.csp_json.proofs.Texts.{json_is, no_text}
use Rattle.csp_json.proofs.array.ArrayReader.new.Goals as goal

pub returns-in_default-clause-not_json : goal.returns-in_default-clause-not_json
returns-in_default-clause-not_json c = λ refused.
    ap (option_and_then array_of) (no_text c.args.bytes.now c.in_default.ensures.cases.0)

pub returns-then-begins_array-clause-ok : goal.returns-then-begins_array-clause-ok
returns-then-begins_array-clause-ok c =
    let text = c.in-Ok.ensures.cases in
    let begun = c.if-begins_array.ensures.passed refl in
    sym (ap (option_and_then array_of) (json_is c.args.bytes.now text.1)
    ∙ ap (λ t. option_and_then array_of (whole (value 127 (tokens t)))) (sym text.0)
    ∙ ap (λ ts. option_and_then array_of (whole (value 127 ts))) (sym c.in_ok-reader.ensures.ok ∙ begun)
    ∙ array_begun c.begins_array.new.reader)

pub returns-else-begins_array-clause-not_json : goal.returns-else-begins_array-clause-not_json
returns-else-begins_array-clause-not_json c = λ refused.
    let text = c.in-Ok.ensures.cases in
    ap (option_and_then array_of) (json_is c.args.bytes.now text.1)
    ∙ ap (λ t. option_and_then array_of (whole (value 127 (tokens t)))) (sym text.0)
    ∙ ap (λ ts. option_and_then array_of (whole (value 127 ts))) (sym c.in_ok-reader.ensures.ok)
    ∙ no_array c.in_ok-reader.reader (sym c.if-begins_array.ensures.value)
