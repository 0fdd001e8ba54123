-- What a description stands for: a table of members for each kind, in the order in which they are tested.
use Rattle.std.specs.Prelude.{ℕ, not, Bool, false, List, [], ◌∷◌, ◌++◌, map, take, chars, encode_utf8_all, codes, Option, Some, None, is_some, Result, Ok, if◌then◌else◌}
use Rattle.std.specs.Char.{is_ascii_uppercase}
use Rattle.std.specs.List.{list_all}
use Rattle.std.specs.Result.{result_ok}
use Rattle.std.specs.Str.{bytes_eq}
use Rattle.serde_json.specs.Data.{Data}
use Rattle.serde_json.specs.Find.{as_str, as_object}
use Rattle.hex.specs.Hex.{decode_sized}
use Rattle.csp_model.specs.DecideNonces.{element_nonce}
use Rattle.csp_model.specs.Names.{capability_named}
use Rattle.csp_model.specs.declared.check.Check.{Check}
use Rattle.csp_model.specs.declared.check.Check.TheVariants as check
use Rattle.csp_model.specs.declared.check.Digests.{Digests}
use Rattle.csp_model.specs.declared.check.Group.{Group}
use Rattle.csp_model.specs.declared.url.Url.{Url}
use Rattle.csp_model.specs.declared.url.Url.TheVariants as url
use Rattle.csp_model.specs.declared.verdict.Described.{Described}
use Rattle.csp_model.specs.Destinations.{destination_named, group_of}
use Rattle.csp_model.specs.declared.element.Element.{Element}
use Rattle.csp_token.specs.Digests.{digests_of}
use Rattle.csp_token.specs.Integrity.{integrity_of}
use Rattle.csp_request.specs.Kinds.{kind_named, inline_named}
use Rattle.csp_request.specs.Members.{◌>>=◌, Form, misused, needed, demand, text, named, flag, array, each, needed_part, part_or_else, optional, required, or_else, is_absent}
use Rattle.csp_url.specs.declared.strip.ShownUrl.{ShownUrl}
use Rattle.csp_request.specs.Urls.{told, web_url, located_url, chain_of, response_hops}
use Rattle.csp_request.specs.declared.chain.Hop.{Hop}
use Rattle.csp_request.specs.declared.error.DescriptionError.{DescriptionError}
use Rattle.csp_request.specs.declared.field.Field.{Field}
use Rattle.csp_request.specs.declared.field.Field.TheVariants as field
use Rattle.csp_request.specs.declared.fetch.FetchOptions.{FetchOptions}
use Rattle.csp_request.specs.declared.inline.InlineSource.{InlineSource}
use Rattle.csp_request.specs.declared.kind.DescriptionKind.{DescriptionKind}
use Rattle.csp_request.specs.declared.kind.DescriptionKind.TheVariants as kind
use Rattle.csp_request.specs.declared.texts.ReportTexts.{ReportTexts}
use Rattle.csp_request.specs.declared.texts.ReportTexts.TheVariants as texts

abbrev pub described_as : List Check → List ℕ → List ℕ → Described
described_as checks blocked_uri sample =
    record { checks = checks; blocked_uri = blocked_uri; sample = sample }

-- the first 40 characters of a source
abbrev pub sample_of : List ℕ → List ℕ
sample_of source = encode_utf8_all (take 40 (chars source))

-- Fetches

abbrev pub fetch_check : Group → FetchOptions → Hop → Check
fetch_check group options hop =
    check.Fetch group hop.url hop.redirects options.nonce options.integrity options.parser_inserted

-- a check for each hop; a report has none
abbrev pub fetch_checks : Option Group → FetchOptions → List Hop → List Check
fetch_checks None options hops = []
fetch_checks (Some group) options hops = map (fetch_check group options) hops

abbrev pub fetch_options : Data → Result FetchOptions DescriptionError
fetch_options value = do
  nonce ← or_else [] text field.Nonce value
  integrity ← or_else [] text field.Integrity value
  parser_inserted ← or_else false flag field.ParserInserted value
  Ok (record { nonce = nonce; integrity = integrity_of integrity; parser_inserted = parser_inserted })

abbrev pub fetch : ReportTexts → Data → Result Described DescriptionError
fetch texts value = do
  destination ← required (named destination_named) field.Destination value
  chain ← chain_of texts value
  response ← optional web_url field.Response value
  options ← fetch_options value
  Ok (described_as
      (fetch_checks (group_of destination) options (chain.hops ++ response_hops chain.hops response))
      chain.shown [])

-- Inline code and style

-- hexadecimal digits in lower case, of so many bytes
abbrev pub lower_hex : ℕ → List ℕ → Option (List ℕ)
lower_hex size word =
    if list_all (λ c. not (is_ascii_uppercase c)) word then result_ok (decode_sized word size) else None

abbrev pub digests : Form Digests
digests field value = do
  sha256 ← needed_part (codes "sha256") (named (lower_hex 32)) field value
  sha384 ← needed_part (codes "sha384") (named (lower_hex 48)) field value
  sha512 ← needed_part (codes "sha512") (named (lower_hex 64)) field value
  Ok (record { sha256 = sha256; sha384 = sha384; sha512 = sha512 })

abbrev pub inline_source : Digests → List ℕ → InlineSource
inline_source digests sample = record { digests = digests; sample = sample }

-- a source text, or else its digests
abbrev pub source_beside : ReportTexts → (List ℕ → Digests) → Option (List ℕ) → Data
    → Result InlineSource DescriptionError
source_beside texts hashed (Some source) value = do
  alone ← demand field.Digests (is_absent field.Digests value)
  Ok (inline_source (hashed source) (told texts (sample_of source)))
source_beside texts hashed None value = do
  given ← optional digests field.Digests value
  known ← needed field.Source given
  Ok (inline_source known [])

abbrev pub source_of : ReportTexts → (List ℕ → Digests) → Data → Result InlineSource DescriptionError
source_of texts hashed value =
    optional text field.Source value >>= λ source. source_beside texts hashed source value

-- an attribute: an array of its name and its value
abbrev pub attribute_of : Field → List Data → Result (List ℕ × List ℕ) DescriptionError
attribute_of field (name ∷ content ∷ []) = do
  name ← text field name
  content ← text field content
  Ok (name, content)
attribute_of field items = misused field

abbrev pub attribute : Form (List ℕ × List ℕ)
attribute field value = array field value >>= attribute_of field

abbrev pub element : Form Element
element field value = do
  tag ← needed_part (codes "tag") text field value
  items ← needed_part (codes "attributes") array field value
  attributes ← each attribute field items
  duplicate ← part_or_else false (codes "duplicate-attribute") flag field value
  Ok (record { tag = tag; attributes = attributes; duplicate = duplicate })

-- the nonce of an element, or else one that is given
abbrev pub nonce_beside : Option Element → Data → Result (List ℕ) DescriptionError
nonce_beside (Some found) value = do
  alone ← demand field.Nonce (is_absent field.Nonce value)
  Ok (element_nonce found.tag found.attributes found.duplicate)
nonce_beside None value = or_else [] text field.Nonce value

abbrev pub nonce_of : Data → Result (List ℕ) DescriptionError
nonce_of value = optional element field.Element value >>= λ found. nonce_beside found value

abbrev pub inline : ReportTexts → (List ℕ → Digests) → Data → Result Described DescriptionError
inline texts hashed value = do
  which ← required (named inline_named) field.InlineType value
  source ← source_of texts hashed value
  nonce ← nonce_of value
  Ok (described_as (check.Inline which nonce source.digests ∷ []) (told texts (codes "inline")) source.sample)

-- The other kinds

abbrev pub eval : ReportTexts → Data → Result Described DescriptionError
eval texts value = do
  source ← or_else [] text field.Source value
  Ok (described_as (check.Eval ∷ []) (told texts (codes "eval")) (told texts (sample_of source)))

abbrev pub wasm : ReportTexts → Result Described DescriptionError
wasm texts = Ok (described_as (check.Wasm ∷ []) (told texts (codes "wasm-eval")) [])

abbrev pub base : ReportTexts → Data → Result Described DescriptionError
base texts value = do
  there ← required web_url field.Url value
  Ok (described_as (check.Base there ∷ []) (told texts (codes "inline")) [])

abbrev pub form_check : Hop → Check
form_check hop = check.Form hop.url hop.redirects

abbrev pub form : ReportTexts → Data → Result Described DescriptionError
form texts value = do
  chain ← chain_of texts value
  Ok (described_as (map form_check chain.hops) chain.shown [])

-- the URL of an origin: its path is one empty piece
abbrev pub origin_url : Url → Url
origin_url (url.Plain scheme) = url.Plain scheme
origin_url (url.Hosted scheme host port path) = url.Hosted scheme host port ([] ∷ [])

abbrev pub is_opaque : Option (List ℕ) → Bool
is_opaque None = false
is_opaque (Some word) = bytes_eq word (codes "null")

-- an ancestor: the text "null", or a URL
abbrev pub ancestor : Form Check
ancestor field value =
    if is_opaque (as_str value) then Ok check.OpaqueAncestor
    else (web_url field value >>= λ there. Ok (check.Ancestor (origin_url there)))

abbrev pub shown_page : Option ShownUrl → List ℕ
shown_page None = []
shown_page (Some there) = there.shown

abbrev pub ancestors : ReportTexts → Data → Result Described DescriptionError
ancestors texts value = do
  items ← required array field.Ancestors value
  checks ← each ancestor field.Ancestors items
  page ← optional (located_url texts) field.Page value
  Ok (described_as checks (shown_page page) [])

abbrev pub capability : Data → Result Described DescriptionError
capability value = do
  which ← required (named capability_named) field.Name value
  Ok (described_as (check.Capability which ∷ []) [] [])

abbrev pub worker_start : Result Described DescriptionError
worker_start = Ok (described_as (check.WorkerStart ∷ []) [] [])

-- a description of a kind, with the texts that a report shows or without, where `hashed` gives the digests of
-- a source
abbrev pub described_by : ReportTexts → (List ℕ → Digests) → DescriptionKind → Data → Result Described DescriptionError
described_by texts hashed kind.Fetch value = fetch texts value
described_by texts hashed kind.Inline value = inline texts hashed value
described_by texts hashed kind.Eval value = eval texts value
described_by texts hashed kind.Wasm value = wasm texts
described_by texts hashed kind.Base value = base texts value
described_by texts hashed kind.Form value = form texts value
described_by texts hashed kind.Ancestors value = ancestors texts value
described_by texts hashed kind.Capability value = capability value
described_by texts hashed kind.WorkerStart value = worker_start

abbrev pub described_for : ReportTexts → (List ℕ → Digests) → Data → Result Described DescriptionError
described_for texts hashed value = do
  object ← demand field.Object (is_some (as_object value))
  which ← required (named kind_named) field.Kind value
  described_by texts hashed which value

abbrev pub described_with : (List ℕ → Digests) → Data → Result Described DescriptionError
described_with hashed value = described_for texts.Made hashed value

-- what a description stands for, or the first member that is missing or misused
abbrev pub described : Data → Result Described DescriptionError
described value = described_with digests_of value
