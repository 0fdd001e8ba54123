use Rattle.std.proofs.Common.{◌≡◌, ◌∙◌, get_or, true, false, ◌==◌, sym, ap}
use Rattle.std.specs.Prelude.{drop, option_and_then}
use Rattle.fast_float.specs.Text.{scan}
use Rattle.serde_json.specs.Find.{as_u64}
use Rattle.serde_json.specs.Read.{number_of, number_from}
use Rattle.csp_json.proofs.Numbers.{with_minus, without_minus, no_unsigned, is_unsigned}
use Rattle.csp_json.proofs.number.unsigned.Goals as goal

pub returns-then-has_minus : goal.returns-then-has_minus
returns-then-has_minus c =
    let s = c.as_bytes-bytes.result.now in
    let signed : (get_or s 0 0 == 45) ≡ true = sym c.if-has_minus.ensures.value in
    sym (ap (option_and_then as_u64) (ap number_of (sym c.as_bytes-bytes.ensures.value) ∙ with_minus s signed)
    ∙ no_unsigned (scan (drop 1 s)))

pub returns-else-has_minus : goal.returns-else-has_minus
returns-else-has_minus c =
    let s = c.as_bytes-bytes.result.now in
    let plain : (get_or s 0 0 == 45) ≡ false = sym c.if-has_minus.ensures.value in
    is_unsigned c.scan.result c.to_u64.result c.to_u64.ensures
    ∙ ap (option_and_then as_u64) (ap (number_from false) c.scan.ensures.parts ∙ sym (without_minus s plain)
    ∙ ap number_of c.as_bytes-bytes.ensures.value)
