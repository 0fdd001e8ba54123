-- URLs and redirect chains in descriptions.
use Rattle.std.specs.Prelude.{ℕ, ◌+◌, ◌-◌, ◌^◌, nat_lt, List, [], ◌∷◌, length, slice_get, codes, Option, Some, None, option_map, unwrap_or, Result, Ok, Err, if◌then◌else◌}
use Rattle.std.specs.Result.{result_ok}
use Rattle.serde_json.specs.Data.{Data}
use Rattle.serde_json.specs.Find.{as_str}
use Rattle.csp_model.specs.Schemes.{scheme_text}
use Rattle.csp_model.specs.declared.url.Url.{Url}
use Rattle.csp_model.specs.declared.url.Url.TheVariants as url
use Rattle.csp_url.specs.Reading.{url_of}
use Rattle.csp_url.specs.Parts.{url_of_parts}
use Rattle.csp_url.specs.Texts.{url_text, is_http, stripped_of, shown_url}
use Rattle.csp_url.specs.declared.strip.ShownUrl.{ShownUrl}
use Rattle.csp_request.specs.Members.{◌>>=◌, Form, misused, needed, demand, text, number, array, each, part, needed_part, required, or_else, is_absent}
use Rattle.csp_request.specs.declared.error.DescriptionError.{DescriptionError}
use Rattle.csp_request.specs.declared.error.DescriptionError.TheVariants.{TooManyHops}
use Rattle.csp_request.specs.declared.field.Field.TheVariants as field
use Rattle.csp_request.specs.declared.texts.ReportTexts.{ReportTexts}
use Rattle.csp_request.specs.declared.texts.ReportTexts.TheVariants as texts
use Rattle.csp_request.specs.declared.chain.Hop.{Hop}
use Rattle.csp_request.specs.declared.chain.Chain.{Chain}

-- a text that only a report shows
abbrev pub told : ReportTexts → List ℕ → List ℕ
told texts.Made shown = shown
told texts.Empty shown = []

-- what a report shows of a URL in parts: its scheme where it isn't http or https, else its text
abbrev pub shown_parts : Url → List ℕ
shown_parts (url.Plain scheme) = scheme
shown_parts (url.Hosted scheme host port path) =
    if is_http (scheme_text scheme) then url_text (url.Hosted scheme host port path) else scheme_text scheme

-- a URL in parts: a scheme, and perhaps a host, a port and a path
abbrev pub url_parts : Form Url
url_parts field value = do
  scheme ← needed_part (codes "scheme") text field value
  host ← part (codes "host") text field value
  port ← part (codes "port") (number 65535) field value
  path ← part (codes "path") text field value
  needed field (result_ok (url_of_parts scheme host port (unwrap_or path (codes "/"))))

abbrev pub url_by_text : Option (List ℕ) → Form Url
url_by_text (Some word) field value = needed field (url_of word)
url_by_text None field value = url_parts field value

-- a URL: a text, or an object in parts
abbrev pub web_url : Form Url
web_url field value = url_by_text (as_str value) field value

abbrev pub shown_by_text : Option (List ℕ) → Url → List ℕ
shown_by_text (Some word) there = unwrap_or (stripped_of word) []
shown_by_text None there = shown_parts there

-- what a report shows of this URL, which a value is
abbrev pub shown_of : Data → Url → List ℕ
shown_of value there = shown_by_text (as_str value) there

-- a URL, and what a report shows of it
abbrev pub located_url : ReportTexts → Form ShownUrl
located_url texts field value = do
  there ← web_url field value
  Ok (shown_url (told texts (shown_of value there)) there)

-- Chains

abbrev pub hop : Url → ℕ → Hop
hop there redirects = record { url = there; redirects = redirects }

-- hops with one redirect more for each
abbrev pub hops_from : ℕ → List Url → List Hop
hops_from redirects [] = []
hops_from redirects (there ∷ rest) = hop there redirects ∷ hops_from (redirects + 1) rest

-- the chain of a first URL, with so many redirects before it, and of others that follow
abbrev pub chain_from : ℕ → ShownUrl → List Url → Chain
chain_from redirects first others =
    record { hops = hop first.url redirects ∷ hops_from (redirects + 1) others; shown = first.shown }

-- the URLs that `urls` may have
abbrev pub hop_limit : ℕ
hop_limit = 21

abbrev pub within_hops : List Data → Result (List Data) DescriptionError
within_hops urls = if nat_lt hop_limit (length urls) then Err TooManyHops else Ok urls

-- the items of `urls`: no more than the limit, and not beside `url`
abbrev pub url_items : Data → Result (List Data) DescriptionError
url_items value = do
  items ← required array field.Urls value
  alone ← demand field.Urls (is_absent field.Url value)
  within_hops items

-- the chain of some items
abbrev pub chain_of_items : ReportTexts → List Data → Result Chain DescriptionError
chain_of_items texts [] = misused field.Urls
chain_of_items texts (first ∷ others) = do
  there ← located_url texts field.Urls first
  urls ← each web_url field.Urls others
  Ok (chain_from 0 there urls)

-- `urls`, which isn't beside `redirects`
abbrev pub chain_of_urls : ReportTexts → Data → Result Chain DescriptionError
chain_of_urls texts value = do
  items ← url_items value
  chain ← chain_of_items texts items
  counted ← demand field.Redirects (is_absent field.Redirects value)
  Ok chain

-- `url`, and `redirects`
abbrev pub chain_of_url : ReportTexts → Data → Result Chain DescriptionError
chain_of_url texts value = do
  there ← required (located_url texts) field.Url value
  redirects ← or_else 0 (number (2 ^ 32 - 1)) field.Redirects value
  Ok (chain_from redirects there [])

-- the URLs of a fetch or of a form submission, with the count of redirects before each
abbrev pub chain_of : ReportTexts → Data → Result Chain DescriptionError
chain_of texts value =
    if is_absent field.Urls value then chain_of_url texts value else chain_of_urls texts value

-- the count of the last hop
abbrev pub last_redirects : List Hop → ℕ
last_redirects hops = unwrap_or (option_map (λ (h : Hop). h.redirects) (slice_get hops (length hops - 1))) 0

-- the hop of a response: its URL, with the count of the last hop
abbrev pub response_hops : List Hop → Option Url → List Hop
response_hops hops None = []
response_hops hops (Some there) = hop there (last_redirects hops) ∷ []
