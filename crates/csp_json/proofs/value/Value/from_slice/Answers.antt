use Rattle.std.proofs.Common.{◌≡◌, ◌∙◌, [], ◌∷◌, Some, None, sym, ap}
use Rattle.json.specs.Json.{value}
use Rattle.json.specs.Lex.{tokens}
use Rattle.serde_json.specs.Read.{converted, of_json}
use Rattle.csp_json.specs.View.{view}
use Rattle.csp_json.proofs.Grammar.{whole, whole_read}
use Rattle.csp_json.proofs.Texts.{json_is, no_text}
use Rattle.csp_json.proofs.value.Value.from_slice.Goals as goal

pub returns-in_default-clause-not_json : goal.returns-in_default-clause-not_json
returns-in_default-clause-not_json c = λ refused. no_text c.args.bytes.now c.in_default.ensures.cases.0

pub returns-in-None-clause-ok : goal.returns-in-None-clause-ok
returns-in-None-clause-ok c =
    let text = c.in-Ok.ensures.cases in
    let read = c.in_ok-value.ensures.ok
    ∙ ap (λ ts. Some (view c.in_ok-value.value, ts)) c.in-None.ensures.value.0 in
    json_is c.args.bytes.now text.1
    ∙ ap (λ t. whole (value 127 (tokens t))) (sym text.0)
    ∙ ap (λ ts. whole (value 127 ts)) (sym c.in_ok-reader.ensures.ok)
    ∙ whole_read (value 127 c.in_ok-reader.reader) (view c.in_ok-value.value) read
