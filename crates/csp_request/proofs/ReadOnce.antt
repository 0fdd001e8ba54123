-- A URL that is read together with what a report shows of it is the one that a description has.
use Rattle.std.proofs.Common.{◌≡◌, refl, ap, ◌∙◌, ℕ, List, [], Option, Some, None, Ok}
use Rattle.std.specs.Prelude.{option_map, unwrap_or}
use Rattle.serde_json.specs.Data.{Data}
use Rattle.serde_json.specs.Find.{as_str}
use Rattle.csp_model.specs.declared.url.Url.{Url}
use Rattle.csp_url.specs.Reading.{url_of}
use Rattle.csp_url.specs.Texts.{shown_url, shown_url_of, stripped_of}
use Rattle.csp_url.proofs.ShownUrls.{read_apart}
use Rattle.csp_request.specs.Members.{◌>>=◌, needed}
use Rattle.csp_request.specs.Urls.{located_url}
use Rattle.csp_request.specs.declared.field.Field.{Field}
use Rattle.csp_request.specs.declared.texts.ReportTexts.TheVariants.{Made}

with_text : (field : Field) (shown : List ℕ) (found : Option Url)
    → (needed field found >>= λ there. Ok (shown_url shown there)) ≡ needed field (option_map (shown_url shown) found)
with_text field shown None = refl
with_text field shown (Some there) = refl

pub located_text : (field : Field) (value : Data) (word : List ℕ) → Some word ≡ as_str value
    → located_url Made field value ≡ needed field (shown_url_of word)
located_text field value word text =
    rw (← text) (with_text field (unwrap_or (stripped_of word) []) (url_of word) ∙ ap (needed field) (read_apart word))
