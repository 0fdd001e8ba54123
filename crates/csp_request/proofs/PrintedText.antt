-- What is printed has no float, so it has one text.
use Rattle.std.proofs.Common.{◌≡◌, ◌∙◌, ap, refl, ℕ, false, List, Option, Some, None}
use Rattle.serde_json.specs.Data.{Data}
use Rattle.serde_json.specs.Written.{has_float, compact_text}
use Rattle.csp_model.specs.declared.check.Check.{Check}
use Rattle.csp_model.specs.declared.check.Check.TheVariants as check
use Rattle.csp_model.specs.declared.url.Url.{Url}
use Rattle.csp_model.specs.declared.url.Url.TheVariants as url
use Rattle.csp_request.specs.Printed.{port_data, url_data, printed}

port_no_float : (port : Option ℕ) → has_float (port_data port) ≡ false
port_no_float None = refl
port_no_float (Some n) = refl

url_no_float : (there : Url) → has_float (url_data there) ≡ false
url_no_float (url.Plain scheme) = refl
url_no_float (url.Hosted scheme host port path) = rw (port_no_float port) refl

-- what is printed has no float
pub no_float : (asked : Check) → has_float (printed asked) ≡ false
no_float (check.Fetch group there redirects nonce integrity parser_inserted) = rw (url_no_float there) refl
no_float (check.Inline kind nonce digests) = refl
no_float check.Eval = refl
no_float check.Wasm = refl
no_float (check.Base there) = rw (url_no_float there) refl
no_float (check.Form there redirects) = rw (url_no_float there) refl
no_float (check.Ancestor there) = rw (url_no_float there) refl
no_float check.OpaqueAncestor = refl
no_float (check.Capability capability) = refl
no_float check.WorkerStart = refl

-- so the text of its value is its text
pub text_of_printed : (asked : Check) (value : Data) (text : List ℕ) → value ≡ printed asked
    → (has_float value ≡ false → text ≡ compact_text value) → text ≡ compact_text (printed asked)
text_of_printed asked value text same written =
    written (ap has_float same ∙ no_float asked) ∙ ap compact_text same
