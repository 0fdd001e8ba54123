use Rattle.std.proofs.Common.{◌≡◌, ◌∙◌, map, Some, sym, ap}
use Rattle.csp_json.specs.Json.{array_of}
use Rattle.csp_json.specs.View.{view}
use Rattle.csp_json.proofs.Reading.{array_of-Array}
use Rattle.csp_json.proofs.value.Value.as_array.Goals as goal

pub returns-in-Array : goal.returns-in-Array
returns-in-Array c =
    ap (λ items. Some (map view items)) c.as_slice.ensures.value
    ∙ sym (ap (λ v. array_of (view v)) c.in-Array.is ∙ array_of-Array c.in-Array.items)
