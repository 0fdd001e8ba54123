-- The URLs of described requests are valid.
use Rattle.std.proofs.Common.{◌≡◌, ◌+◌, ◌-◌, ◌^◌, refl, subst, ℕ, Bool, true, false, cond, List, [], ◌∷◌, All, Option, Some, None, Result, Ok, Err}
use Rattle.std.specs.Prelude.{IfSome, is_some, unwrap_or, codes}
use Rattle.std.specs.Result.{result_ok}
use Rattle.std.proofs.lemmas.List.Elements.{All-nil, All-cons, All-head, All-tail, All-append, All-map}
use Rattle.serde_json.specs.Data.{Data}
use Rattle.serde_json.specs.Find.{as_str, as_object}
use Rattle.csp_model.specs.Destinations.{destination_named, group_of}
use Rattle.csp_model.specs.Names.{capability_named}
use Rattle.csp_model.specs.Validity.{IsValidUrl, is_piece}
use Rattle.csp_model.specs.declared.check.Check.{Check}
use Rattle.csp_model.specs.declared.check.Check.TheVariants as check
use Rattle.csp_model.specs.declared.check.Digests.{Digests}
use Rattle.csp_model.specs.declared.check.Group.{Group}
use Rattle.csp_model.specs.declared.url.Url.{Url}
use Rattle.csp_model.specs.declared.url.Url.TheVariants as url
use Rattle.csp_model.specs.declared.verdict.Described.{Described}
use Rattle.csp_request.specs.Described.{ancestor, ancestors, base, described_by, described_for, described_with, capability, described_as, eval, fetch, fetch_check, fetch_checks, fetch_options, form, form_check, inline, is_opaque, nonce_of, origin_url, source_of}
use Rattle.csp_request.specs.Kinds.{inline_named, kind_named}
use Rattle.csp_request.specs.Members.{◌>>=◌, Form, array, by_form, demand, each, field_text, is_absent, named, needed, needed_part, number, optional, or_else, part, required, text}
use Rattle.csp_request.specs.Json.{present}
use Rattle.csp_request.specs.Requests.{described_from, each_from, first_before, requests_in, requests_of}
use Rattle.csp_request.specs.Urls.{chain_from, chain_of, chain_of_items, chain_of_url, chain_of_urls, hop, hops_from, located_url, response_hops, url_by_text, url_items, url_parts, web_url}
use Rattle.csp_request.specs.declared.error.DescriptionError.{DescriptionError}
use Rattle.csp_request.specs.declared.error.RequestError.{RequestError}
use Rattle.csp_request.specs.declared.field.Field.{Field}
use Rattle.csp_request.specs.declared.field.Field.TheVariants as field
use Rattle.csp_request.specs.declared.kind.DescriptionKind.{DescriptionKind}
use Rattle.csp_request.specs.declared.kind.DescriptionKind.TheVariants as kind
use Rattle.csp_request.specs.declared.texts.ReportTexts.{ReportTexts}
use Rattle.csp_request.specs.declared.texts.ReportTexts.TheVariants as texts
use Rattle.csp_token.specs.Digests.{digests_of}
use Rattle.csp_url.specs.Parts.{url_of_parts}
use Rattle.csp_url.specs.Reading.{url_of}
use Rattle.csp_url.specs.declared.strip.ShownUrl.{ShownUrl}
use Rattle.csp_valid.specs.ValidUrls.{HasValidUrl, HaveValidUrls}
use Rattle.csp_url.proofs.Valid.{url_valid}
use Rattle.csp_valid.proofs.Urls.{parts_url_valid}

-- Steps

found_then : {A B : Type 0} (step : Result A DescriptionError) (next : A → Result B DescriptionError) (y : B)
    → (step >>= next) ≡ Ok y → (x : A) × (step ≡ Ok x) × (next x ≡ Ok y)
found_then (Ok x) next y is = (x, refl, is)
found_then (Err e) next y is = absurd (cc is)

found_same : {A : Type 0} (x y : A) → ◌≡◌ {A = Result A DescriptionError} (Ok x) (Ok y) → x ≡ y
found_same x y is = cc is

needed_found : {A : Type 0} (at : Field) (o : Option A) (x : A) → needed at o ≡ Ok x → o ≡ Some x
needed_found at (Some y) x is = cc is
needed_found at None x is = absurd (cc is)

ok_found : {A E : Type 0} (r : Result A E) (x : A) → result_ok r ≡ Some x → r ≡ Ok x
ok_found (Ok y) x is = cc is
ok_found (Err e) x is = absurd (cc is)

-- what a form finds is so
abbrev Finds : {T : Type 0} → (T → Type 0) → Form T → Type 0
Finds P form = (at : Field) (value : Data) (x : _) → form at value ≡ Ok x → P x

optional_finds : {T : Type 0} (P : T → Type 0) (form : Form T) → Finds P form → (at : Field) (given : Option Data)
    (found : Option T) → by_form form at given ≡ Ok found → IfSome found P
optional_finds P form finds at None found is =
    let same : None ≡ found = cc is in subst (λ o. IfSome o P) same tt
optional_finds P form finds at (Some value) found is =
    let one = found_then (form at value) _ found is in
    let same : Some one.0 ≡ found = cc one.2 in
    subst (λ o. IfSome o P) same (finds at value one.0 one.1)

required_finds : {T : Type 0} (P : T → Type 0) (form : Form T) → Finds P form → (at : Field) (value : Data) (x : T)
    → required form at value ≡ Ok x → P x
required_finds P form finds at value x is =
    let one = found_then (optional form at value) (needed at) x is in
    let all = optional_finds P form finds at (present (field_text at) value) one.0 one.1 in
    subst (λ o. IfSome o P) (needed_found at one.0 x one.2) all

each_finds : {T : Type 0} (P : T → Type 0) (form : Form T) → Finds P form → (at : Field) (values : List Data)
    (xs : List T) → each form at values ≡ Ok xs → All P xs
each_finds P form finds at [] xs is =
    let same : [] ≡ xs = cc is in subst (All P) same (All-nil P)
each_finds P form finds at (value ∷ values) xs is =
    let one = found_then (form at value) _ xs is in
    let more = found_then (each form at values) _ xs one.2 in
    let same : one.0 ∷ more.0 ≡ xs = cc more.2 in
    subst (All P) same
    (All-cons P one.0 more.0 (finds at value one.0 one.1) (each_finds P form finds at values more.0 more.1))

-- URLs

parts_found : Finds IsValidUrl url_parts
parts_found at value there is =
    let scheme = found_then (needed_part (codes "scheme") text at value) _ there is in
    let host = found_then (part (codes "host") text at value) _ there scheme.2 in
    let port = found_then (part (codes "port") (number 65535) at value) _ there host.2 in
    let path = found_then (part (codes "path") text at value) _ there port.2 in
    let made = url_of_parts scheme.0 host.0 port.0 (unwrap_or path.0 (codes "/")) in
    parts_url_valid scheme.0 host.0 port.0 (unwrap_or path.0 (codes "/")) there
    (ok_found made there (needed_found at (result_ok made) there path.2))

text_found : (word : Option (List ℕ)) → Finds IsValidUrl (url_by_text word)
text_found (Some word) at value there is = url_valid word there (needed_found at (url_of word) there is)
text_found None at value there is = parts_found at value there is

web_found : Finds IsValidUrl web_url
web_found at value there is = text_found (as_str value) at value there is

abbrev IsShown : ShownUrl → Type 0
IsShown shown = IsValidUrl shown.url

located_found : (texts : ReportTexts) → Finds IsShown (located_url texts)
located_found texts at value shown is =
    let one = found_then (web_url at value) _ shown is in
    let same = found_same _ shown one.2 in
    subst IsShown same (web_found at value one.0 one.1)

-- Chains

from_valid : (redirects : ℕ) (urls : List Url) → All IsValidUrl urls → All (λ at. HasValidUrl (form_check at)) (hops_from redirects urls)
from_valid redirects [] all = All-nil (λ at. HasValidUrl (form_check at))
from_valid redirects (there ∷ urls) all =
    All-cons (λ at. HasValidUrl (form_check at)) (hop there redirects) (hops_from (redirects + 1) urls) (All-head IsValidUrl there urls all)
    (from_valid (redirects + 1) urls (All-tail IsValidUrl there urls all))

chain_valid : (redirects : ℕ) (first : ShownUrl) (others : List Url) (chain : _) → IsShown first
    → All IsValidUrl others → chain_from redirects first others ≡ chain → All (λ at. HasValidUrl (form_check at)) chain.hops
chain_valid redirects first others chain one all is =
    subst (λ c. All (λ at. HasValidUrl (form_check at)) c.hops) is
    (All-cons (λ at. HasValidUrl (form_check at)) (hop first.url redirects) (hops_from (redirects + 1) others) one
    (from_valid (redirects + 1) others all))

url_chain : (texts : ReportTexts) (value : Data) (chain : _) → chain_of_url texts value ≡ Ok chain
    → All (λ at. HasValidUrl (form_check at)) chain.hops
url_chain texts value chain is =
    let there = found_then (required (located_url texts) field.Url value) _ chain is in
    let count = found_then (or_else 0 (number (2 ^ 32 - 1)) field.Redirects value) _ chain there.2 in
    chain_valid count.0 there.0 [] chain
    (required_finds IsShown (located_url texts) (located_found texts) field.Url value there.0 there.1)
    (All-nil IsValidUrl) (cc count.2)

items_chain : (texts : ReportTexts) (items : List Data) (chain : _) → chain_of_items texts items ≡ Ok chain
    → All (λ at. HasValidUrl (form_check at)) chain.hops
items_chain texts [] chain is = absurd (cc is)
items_chain texts (first ∷ others) chain is =
    let there = found_then (located_url texts field.Urls first) _ chain is in
    let urls = found_then (each web_url field.Urls others) _ chain there.2 in
    chain_valid 0 there.0 urls.0 chain (located_found texts field.Urls first there.0 there.1)
    (each_finds IsValidUrl web_url web_found field.Urls others urls.0 urls.1) (cc urls.2)

urls_chain : (texts : ReportTexts) (value : Data) (chain : _) → chain_of_urls texts value ≡ Ok chain
    → All (λ at. HasValidUrl (form_check at)) chain.hops
urls_chain texts value chain is =
    let items = found_then (url_items value) _ chain is in
    let made = found_then (chain_of_items texts items.0) _ chain items.2 in
    let counted = found_then (demand field.Redirects (is_absent field.Redirects value)) _ chain made.2 in
    let same : made.0 ≡ chain = cc counted.2 in
    subst (λ c. All (λ at. HasValidUrl (form_check at)) c.hops) same (items_chain texts items.0 made.0 made.1)

chain_found : (texts : ReportTexts) (value : Data) (chain : _) → chain_of texts value ≡ Ok chain
    → All (λ at. HasValidUrl (form_check at)) chain.hops
chain_found texts value chain is = by (is_absent field.Urls value) is where
  by : (absent : Bool) → cond absent (chain_of_url texts value) (chain_of_urls texts value) ≡ Ok chain
      → All (λ at. HasValidUrl (form_check at)) chain.hops
  by true e = url_chain texts value chain e
  by false e = urls_chain texts value chain e

-- Requests of each kind

abbrev Outcome : Type 0
Outcome = Result Described DescriptionError

fetched : (group : Option Group) (options : _) (hops : List _) → All (λ at. HasValidUrl (form_check at)) hops
    → All HasValidUrl (fetch_checks group options hops)
fetched None options hops all = All-nil HasValidUrl
fetched (Some group) options hops all = All-map HasValidUrl (fetch_check group options) hops all

answered : (hops : List _) (response : Option Url) → IfSome response IsValidUrl
    → All (λ at. HasValidUrl (form_check at)) (response_hops hops response)
answered hops None all = All-nil (λ at. HasValidUrl (form_check at))
answered hops (Some there) all = All-cons (λ at. HasValidUrl (form_check at)) _ [] all (All-nil (λ at. HasValidUrl (form_check at)))

of_fetch : (texts : ReportTexts) (value : Data) (d : Described) → fetch texts value ≡ Ok d → HaveValidUrls d
of_fetch texts value d is =
    let to = found_then (required (named destination_named) field.Destination value) _ d is in
    let chain = found_then (chain_of texts value) _ d to.2 in
    let response = found_then (optional web_url field.Response value) _ d chain.2 in
    let options = found_then (fetch_options value) _ d response.2 in
    let same = found_same _ d options.2 in
    subst HaveValidUrls same
    (fetched (group_of to.0) options.0 _
    (All-append (λ at. HasValidUrl (form_check at)) chain.0.hops (response_hops chain.0.hops response.0)
    (chain_found texts value chain.0 chain.1)
    (answered chain.0.hops response.0
    (optional_finds IsValidUrl web_url web_found field.Response (present (field_text field.Response) value) response.0 response.1))))

of_base : (texts : ReportTexts) (value : Data) (d : Described) → base texts value ≡ Ok d → HaveValidUrls d
of_base texts value d is =
    let there = found_then (required web_url field.Url value) _ d is in
    let same = found_same _ d there.2 in
    subst HaveValidUrls same
    (All-cons HasValidUrl (check.Base there.0) []
    (required_finds IsValidUrl web_url web_found field.Url value there.0 there.1) (All-nil HasValidUrl))

of_form : (texts : ReportTexts) (value : Data) (d : Described) → form texts value ≡ Ok d → HaveValidUrls d
of_form texts value d is =
    let chain = found_then (chain_of texts value) _ d is in
    let same = found_same _ d chain.2 in
    subst HaveValidUrls same (All-map HasValidUrl form_check chain.0.hops (chain_found texts value chain.0 chain.1))

origin_valid : (there : Url) → IsValidUrl there → IsValidUrl (origin_url there)
unfolding is_piece
origin_valid (url.Plain scheme) valid = valid
origin_valid (url.Hosted scheme host port path) valid = (valid.0, valid.1, (λ none. absurd (cc none)), refl)

ancestor_found : Finds HasValidUrl ancestor
ancestor_found at value asked is = by (is_opaque (as_str value)) is where
  by : (opaque : Bool) → cond opaque (Ok check.OpaqueAncestor) (web_url at value >>= λ there. Ok (check.Ancestor (origin_url there))) ≡ Ok asked
      → HasValidUrl asked
  by true e = let same : check.OpaqueAncestor ≡ asked = cc e in subst HasValidUrl same tt
  by false e =
      let there = found_then (web_url at value) _ asked e in
      let same : check.Ancestor (origin_url there.0) ≡ asked = cc there.2 in
      subst HasValidUrl same (origin_valid there.0 (web_found at value there.0 there.1))

of_ancestors : (texts : ReportTexts) (value : Data) (d : Described) → ancestors texts value ≡ Ok d → HaveValidUrls d
of_ancestors texts value d is =
    let items = found_then (required array field.Ancestors value) _ d is in
    let checks = found_then (each ancestor field.Ancestors items.0) _ d items.2 in
    let page = found_then (optional (located_url texts) field.Page value) _ d checks.2 in
    let same = found_same _ d page.2 in
    subst HaveValidUrls same (each_finds HasValidUrl ancestor ancestor_found field.Ancestors items.0 checks.0 checks.1)

-- a request of one check without a URL
of_one : (asked : Check) (blocked sample : List ℕ) (d : Described) → HasValidUrl asked
    → ◌≡◌ {A = Outcome} (Ok (described_as (asked ∷ []) blocked sample)) (Ok d) → HaveValidUrls d
of_one asked blocked sample d valid is =
    let same : described_as (asked ∷ []) blocked sample ≡ d = cc is in
    subst HaveValidUrls same (All-cons HasValidUrl asked [] valid (All-nil HasValidUrl))

of_inline : (texts : ReportTexts) (hashed : List ℕ → Digests) (value : Data) (d : Described)
    → inline texts hashed value ≡ Ok d → HaveValidUrls d
of_inline texts hashed value d is =
    let which = found_then (required (named inline_named) field.InlineType value) _ d is in
    let source = found_then (source_of texts hashed value) _ d which.2 in
    let nonce = found_then (nonce_of value) _ d source.2 in
    of_one (check.Inline which.0 nonce.0 source.0.digests) _ _ d tt nonce.2

of_eval : (texts : ReportTexts) (value : Data) (d : Described) → eval texts value ≡ Ok d → HaveValidUrls d
of_eval texts value d is =
    let source = found_then (or_else [] text field.Source value) _ d is in
    of_one check.Eval _ _ d tt source.2

of_capability : (value : Data) (d : Described) → capability value ≡ Ok d → HaveValidUrls d
of_capability value d is =
    let which = found_then (required (named capability_named) field.Name value) _ d is in
    of_one (check.Capability which.0) _ _ d tt which.2

of_kind : (texts : ReportTexts) (hashed : List ℕ → Digests) (which : DescriptionKind) (value : Data) (d : Described)
    → described_by texts hashed which value ≡ Ok d → HaveValidUrls d
of_kind texts hashed kind.Fetch value d is = of_fetch texts value d is
of_kind texts hashed kind.Inline value d is = of_inline texts hashed value d is
of_kind texts hashed kind.Eval value d is = of_eval texts value d is
of_kind texts hashed kind.Wasm value d is = of_one check.Wasm _ _ d tt is
of_kind texts hashed kind.Base value d is = of_base texts value d is
of_kind texts hashed kind.Form value d is = of_form texts value d is
of_kind texts hashed kind.Ancestors value d is = of_ancestors texts value d is
of_kind texts hashed kind.Capability value d is = of_capability value d is
of_kind texts hashed kind.WorkerStart value d is = of_one check.WorkerStart _ _ d tt is

of_value : (texts : ReportTexts) (hashed : List ℕ → Digests) (value : Data) (d : Described)
    → described_for texts hashed value ≡ Ok d → HaveValidUrls d
of_value texts hashed value d is =
    let object = found_then (demand field.Object (is_some (as_object value))) _ d is in
    let which = found_then (required (named kind_named) field.Kind value) _ d object.2 in
    of_kind texts hashed which.0 value d which.2

-- Files

abbrev All_valid : List Described → Type 0
All_valid requests = All HaveValidUrls requests

one_before : (number : ℕ) (first : Outcome) (others : Result (List Described) RequestError) (requests : List Described)
    → first_before number first others ≡ Ok requests → ((d : Described) → first ≡ Ok d → HaveValidUrls d)
    → ((more : List Described) → others ≡ Ok more → All_valid more) → All_valid requests
one_before number (Ok d) (Ok more) requests is one rest =
    let same : d ∷ more ≡ requests = cc is in
    subst All_valid same (All-cons HaveValidUrls d more (one d refl) (rest more refl))
one_before number (Ok d) (Err e) requests is one rest = absurd (cc is)
one_before number (Err e) others requests is one rest = absurd (cc is)

from_values : (number : ℕ) (values : List Data) (requests : List Described)
    → described_from digests_of number values ≡ Ok requests → All_valid requests
from_values number [] requests is =
    let same : [] ≡ requests = cc is in subst All_valid same (All-nil HaveValidUrls)
from_values number (value ∷ values) requests is =
    one_before number (described_with digests_of value) (described_from digests_of (number + 1) values) requests is
    (of_value texts.Made digests_of value) (from_values (number + 1) values)

pub requests_valid : (bytes : List ℕ) (requests : List Described) → requests_of bytes ≡ Ok requests → All_valid requests
requests_valid bytes requests is = by (requests_in bytes) is where
  by : (found : Result (List Data) RequestError) → each_from digests_of 1 found ≡ Ok requests → All_valid requests
  by (Ok values) e = from_values 1 values requests e
  by (Err error) e = absurd (cc e)
