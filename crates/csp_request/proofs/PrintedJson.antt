-- The text of what is printed reads as it.
use Rattle.std.proofs.Common.{arith, ◌≡◌, ◌≤◌, ◌∙◌, ap, sym, refl, ℕ, [], ◌++◌, Option, Some, None, append-nil}
use Rattle.std.specs.Prelude.{option_and_then}
use Rattle.json.specs.Json as json
use Rattle.json.specs.Lex.{tokens}
use Rattle.json.specs.Tree.{json_tokens, HasNumbers, depth}
use Rattle.json.proofs.Printed.Decimals.{IsNumber-decimal}
use Rattle.json.proofs.Printed.Tokens.{tokens-print}
use Rattle.json.proofs.Printed.Trees.{value-json_tokens, ArePrintable-json_tokens}
use Rattle.serde_json.specs.Data.{Data}
use Rattle.serde_json.specs.Read.{read, of_json, max_depth}
use Rattle.serde_json.specs.Written.{compact_text, outline}
use Rattle.serde_json.proofs.Numbers.{number_of-decimal}
use Rattle.serde_json.proofs.Texts.{print-outline}
use Rattle.csp_model.specs.Validity.{IsValidPort, IsValidUrl, IsValidCheck}
use Rattle.csp_model.specs.declared.check.Check.{Check}
use Rattle.csp_model.specs.declared.check.Check.TheVariants as check
use Rattle.csp_model.specs.declared.url.Scheme.{Scheme}
use Rattle.csp_model.specs.declared.url.Url.{Url}
use Rattle.csp_model.specs.declared.url.Url.TheVariants as url
use Rattle.csp_request.specs.Printed.{port_data, url_data, printed}

-- a value that its JSON stands for, with good numbers, reads back from its text
pub record IsReadable (value : Data) : Type 0 where
  pub numbers : HasNumbers (outline value)
  pub json : of_json (outline value) ≡ Some value

pub read_text : (value : Data) → IsReadable value → depth (outline value) ≤ max_depth
    → read (compact_text value) ≡ Some value
read_text value readable shallow =
    let written = json_tokens (outline value) in
    let again : tokens (compact_text value) ≡ written ++ [] = ap tokens (sym (print-outline value))
    ∙ tokens-print written (ArePrintable-json_tokens (outline value) readable.numbers) ∙ sym (append-nil written) in
    ap (λ found. option_and_then of_json (option_and_then (λ p. json.if_last p.0 p.1) found))
    (ap (json.value max_depth) again ∙ value-json_tokens (outline value) max_depth [] shallow)
    ∙ readable.json

port_readable : (scheme : Scheme) (port : Option ℕ) → IsValidPort scheme port → IsReadable (port_data port)
port_readable scheme None valid = record { numbers = tt; json = refl }
port_readable scheme (Some n) valid =
    record { numbers = IsNumber-decimal n (omega arith); json = rw (number_of-decimal n (omega arith)) refl }

url_readable : (there : Url) → IsValidUrl there → IsReadable (url_data there)
url_readable (url.Plain scheme) valid = record { numbers = (tt, tt); json = refl }
url_readable (url.Hosted scheme host port path) valid =
    let inner = port_readable scheme port valid.1 in
    record { numbers = (tt, (tt, (inner.numbers, (tt, tt)))); json = rw inner.json refl }

pub check_readable : (asked : Check) → IsValidCheck asked → IsReadable (printed asked)
check_readable (check.Fetch group there redirects nonce integrity parser_inserted) valid =
    let inner = url_readable there valid.0 in
    record {
      numbers = (tt, (tt, (tt, (tt, (tt, (IsNumber-decimal redirects (omega arith), (inner.numbers, tt)))))));
      json = rw (number_of-decimal redirects (omega arith), inner.json) refl;
    }
check_readable (check.Inline kind nonce digests) valid =
    record { numbers = ((tt, (tt, (tt, tt))), (tt, (tt, (tt, tt)))); json = refl }
check_readable check.Eval valid = record { numbers = (tt, tt); json = refl }
check_readable check.Wasm valid = record { numbers = (tt, tt); json = refl }
check_readable (check.Base there) valid =
    let inner = url_readable there valid in
    record { numbers = (tt, (inner.numbers, tt)); json = rw inner.json refl }
check_readable (check.Form there redirects) valid =
    let inner = url_readable there valid.0 in
    record {
      numbers = (tt, (IsNumber-decimal redirects (omega arith), (inner.numbers, tt)));
      json = rw (number_of-decimal redirects (omega arith), inner.json) refl;
    }
check_readable (check.Ancestor there) valid =
    let inner = url_readable there valid.0 in
    record { numbers = ((inner.numbers, tt), (tt, tt)); json = rw inner.json refl }
check_readable check.OpaqueAncestor valid = record { numbers = ((tt, tt), (tt, tt)); json = refl }
check_readable (check.Capability which) valid = record { numbers = (tt, (tt, tt)); json = refl }
check_readable check.WorkerStart valid = record { numbers = (tt, tt); json = refl }

port_depth : (port : Option ℕ) → depth (outline (port_data port)) ≡ 0
port_depth None = refl
port_depth (Some n) = refl

url_depth : (there : Url) → depth (outline (url_data there)) ≡ 1
url_depth (url.Plain scheme) = refl
url_depth (url.Hosted scheme host port path) = rw (port_depth port) refl

pub check_depth : (asked : Check) → depth (outline (printed asked)) ≤ 3
check_depth (check.Fetch group there redirects nonce integrity parser_inserted) =
    rw (url_depth there) (omega arith)
check_depth (check.Inline kind nonce digests) = omega arith
check_depth check.Eval = omega arith
check_depth check.Wasm = omega arith
check_depth (check.Base there) = rw (url_depth there) (omega arith)
check_depth (check.Form there redirects) = rw (url_depth there) (omega arith)
check_depth (check.Ancestor there) = rw (url_depth there) (omega arith)
check_depth check.OpaqueAncestor = omega arith
check_depth (check.Capability which) = omega arith
check_depth check.WorkerStart = omega arith
