-- The checks of a description are the same without the texts that only a report shows.
use Rattle.std.proofs.Common.{◌≡◌, refl, ap, ℕ, Bool, true, false, List, [], ◌∷◌, ◌++◌, map, Option, Some, None, Result, Ok, Err, cond}
use Rattle.std.specs.Prelude.{codes}
use Rattle.serde_json.specs.Data.{Data}
use Rattle.csp_model.specs.declared.check.Check.{Check}
use Rattle.csp_model.specs.declared.check.Check.TheVariants as check
use Rattle.csp_model.specs.declared.check.Digests.{Digests}
use Rattle.csp_model.specs.declared.check.InlineKind.{InlineKind}
use Rattle.csp_model.specs.declared.url.Url.{Url}
use Rattle.csp_model.specs.declared.verdict.Described.{Described}
use Rattle.csp_model.specs.Destinations.{destination_named, group_of}
use Rattle.csp_url.specs.Texts.{shown_url}
use Rattle.csp_url.specs.declared.strip.ShownUrl.{ShownUrl}
use Rattle.csp_request.specs.Described.{described_as, described_for, described_with, described_by, fetch, fetch_checks, fetch_options, form, form_check, ancestor, ancestors, shown_page, inline, source_beside, inline_source, nonce_of, sample_of}
use Rattle.csp_request.specs.Json.{present}
use Rattle.csp_request.specs.Kinds.{kind_named, inline_named}
use Rattle.csp_request.specs.Members.{◌>>=◌, found_map, demand, needed, named, number, text, array, each, by_form, optional, required, or_else, is_absent}
use Rattle.csp_request.specs.Urls.{told, shown_of, web_url, located_url, chain_from, url_items, chain_of_items, chain_of_url, chain_of_urls, chain_of, response_hops}
use Rattle.csp_request.specs.declared.chain.Chain.{Chain}
use Rattle.csp_request.specs.declared.chain.Hop.{Hop}
use Rattle.csp_request.specs.declared.error.DescriptionError.{DescriptionError}
use Rattle.csp_request.specs.declared.field.Field.TheVariants as field
use Rattle.csp_request.specs.declared.inline.InlineSource.{InlineSource}
use Rattle.csp_request.specs.declared.kind.DescriptionKind.{DescriptionKind}
use Rattle.csp_request.specs.declared.kind.DescriptionKind.TheVariants as kind
use Rattle.csp_request.specs.declared.texts.ReportTexts.{ReportTexts}
use Rattle.csp_request.specs.declared.texts.ReportTexts.TheVariants.{Made}
use Rattle.csp_request.proofs.Hashed.{Outcome, then_same}

-- the checks of what was found
abbrev pub checks_in : Outcome → Result (List Check) DescriptionError
checks_in found = found_map (λ (d : Described). d.checks) found

abbrev of_checks : List Check → Result (List Check) DescriptionError
of_checks checks = Ok checks

-- Chains

abbrev hops_in : Result Chain DescriptionError → Result (List Hop) DescriptionError
hops_in found = found_map (λ (c : Chain). c.hops) found

-- a URL that was read of a value, with its text
abbrev located_from : ReportTexts → Data → Result Url DescriptionError → Result ShownUrl DescriptionError
located_from texts value found = found >>= λ there. Ok (shown_url (told texts (shown_of value there)) there)

abbrev counted : Data → ShownUrl → Result Chain DescriptionError
counted value there = or_else 0 (number 4294967295) field.Redirects value >>= λ redirects. Ok (chain_from redirects there [])

abbrev by_member : ReportTexts → Data → Option Data → Result Chain DescriptionError
by_member texts value member = (by_form (located_url texts) field.Url member >>= needed field.Url) >>= counted value

of_member : (texts : ReportTexts) (value : Data) (member : Option Data)
    → hops_in (by_member texts value member) ≡ hops_in (by_member Made value member)
of_member texts value None = refl
of_member texts value (Some v) = by (web_url field.Url v) where
  by : (found : Result Url DescriptionError)
      → hops_in (((located_from texts v found >>= λ x. Ok (Some x)) >>= needed field.Url) >>= counted value)
      ≡ hops_in (((located_from Made v found >>= λ x. Ok (Some x)) >>= needed field.Url) >>= counted value)
  by (Ok there) = then_same hops_in (or_else 0 (number 4294967295) field.Redirects value) _ _ (λ redirects. refl)
  by (Err e) = refl

abbrev not_counted : Data → Chain → Result Chain DescriptionError
not_counted value chain = demand field.Redirects (is_absent field.Redirects value) >>= λ _. Ok chain

of_items : (texts : ReportTexts) (value : Data) (items : List Data)
    → hops_in (chain_of_items texts items >>= not_counted value)
    ≡ hops_in (chain_of_items Made items >>= not_counted value)
of_items texts value [] = refl
of_items texts value (first ∷ others) = by (web_url field.Urls first) (each web_url field.Urls others) where
  by : (found : Result Url DescriptionError) (rest : Result (List Url) DescriptionError)
      → hops_in ((located_from texts first found >>= λ there. rest >>= λ urls. Ok (chain_from 0 there urls)) >>= not_counted value)
      ≡ hops_in ((located_from Made first found >>= λ there. rest >>= λ urls. Ok (chain_from 0 there urls)) >>= not_counted value)
  by (Ok there) (Ok urls) =
      then_same hops_in (demand field.Redirects (is_absent field.Redirects value)) _ _ (λ alone. refl)
  by (Ok there) (Err e) = refl
  by (Err e) rest = refl

hops_same : (texts : ReportTexts) (value : Data) → hops_in (chain_of texts value) ≡ hops_in (chain_of Made value)
hops_same texts value = by (is_absent field.Urls value) where
  by : (b : Bool) → hops_in (cond b (chain_of_url texts value) (chain_of_urls texts value))
      ≡ hops_in (cond b (chain_of_url Made value) (chain_of_urls Made value))
  by true = of_member texts value (present (codes "url") value)
  by false = then_same hops_in (url_items value) _ _ (of_items texts value)

-- chains with the same hops, before a step that goes by them
by_hops : (first second : Result Chain DescriptionError) (next : Chain → Outcome)
    → ((one other : Chain) → one.hops ≡ other.hops → checks_in (next one) ≡ checks_in (next other))
    → hops_in first ≡ hops_in second → checks_in (first >>= next) ≡ checks_in (second >>= next)
by_hops (Ok one) (Ok other) next alike same = alike one other (cc same)
by_hops (Ok one) (Err e) next alike same = absurd (cc same)
by_hops (Err e) (Ok other) next alike same = absurd (cc same)
by_hops (Err e) (Err d) next alike same = let equal : e ≡ d = cc same in rw equal refl

-- The kinds

abbrev with_nonce : ReportTexts → InlineKind → Data → InlineSource → Outcome
with_nonce texts which value source = nonce_of value >>= λ nonce.
    Ok (described_as (check.Inline which nonce source.digests ∷ []) (told texts (codes "inline")) source.sample)

fetch_same : (texts : ReportTexts) (value : Data) → checks_in (fetch texts value) ≡ checks_in (fetch Made value)
fetch_same texts value =
    then_same checks_in (required (named destination_named) field.Destination value) _ _ (λ destination.
    by_hops (chain_of texts value) (chain_of Made value) _
    (λ one other same. then_same checks_in (optional web_url field.Response value) _ _ (λ response.
    then_same checks_in (fetch_options value) _ _ (λ options.
    ap (λ (hops : List Hop). of_checks (fetch_checks (group_of destination) options (hops ++ response_hops hops response))) same)))
    (hops_same texts value))

form_same : (texts : ReportTexts) (value : Data) → checks_in (form texts value) ≡ checks_in (form Made value)
form_same texts value =
    by_hops (chain_of texts value) (chain_of Made value) _
    (λ one other same. ap (λ (hops : List Hop). of_checks (map form_check hops)) same) (hops_same texts value)

abbrev on_page : List Check → Option ShownUrl → Outcome
on_page checks page = Ok (described_as checks (shown_page page) [])

page_same : (texts : ReportTexts) (checks : List Check) (member : Option Data)
    → checks_in (by_form (located_url texts) field.Page member >>= on_page checks)
    ≡ checks_in (by_form (located_url Made) field.Page member >>= on_page checks)
page_same texts checks None = refl
page_same texts checks (Some v) = by (web_url field.Page v) where
  by : (found : Result Url DescriptionError)
      → checks_in ((located_from texts v found >>= λ x. Ok (Some x)) >>= on_page checks)
      ≡ checks_in ((located_from Made v found >>= λ x. Ok (Some x)) >>= on_page checks)
  by (Ok there) = refl
  by (Err e) = refl

ancestors_same : (texts : ReportTexts) (value : Data)
    → checks_in (ancestors texts value) ≡ checks_in (ancestors Made value)
ancestors_same texts value =
    then_same checks_in (required array field.Ancestors value) _ _ (λ items.
    then_same checks_in (each ancestor field.Ancestors items) _ _ (λ checks.
    page_same texts checks (present (codes "page") value)))

with_told : (texts : ReportTexts) (which : InlineKind) (value : Data) (source : InlineSource)
    → checks_in (with_nonce texts which value source) ≡ checks_in (with_nonce Made which value source)
with_told texts which value source = then_same checks_in (nonce_of value) _ _ (λ nonce. refl)

source_same : (texts : ReportTexts) (hashed : List ℕ → Digests) (which : InlineKind) (value : Data)
    (source : Option (List ℕ))
    → checks_in (source_beside texts hashed source value >>= with_nonce texts which value)
    ≡ checks_in (source_beside Made hashed source value >>= with_nonce Made which value)
source_same texts hashed which value None =
    then_same checks_in (source_beside Made hashed None value) _ _ (with_told texts which value)
source_same texts hashed which value (Some source) = by (is_absent field.Digests value) where
  by : (alone : Bool)
      → checks_in ((demand field.Digests alone >>= λ _. Ok (inline_source (hashed source) (told texts (sample_of source)))) >>= with_nonce texts which value)
      ≡ checks_in ((demand field.Digests alone >>= λ _. Ok (inline_source (hashed source) (told Made (sample_of source)))) >>= with_nonce Made which value)
  by true = then_same checks_in (nonce_of value) _ _ (λ nonce. refl)
  by false = refl

inline_told : (texts : ReportTexts) (hashed : List ℕ → Digests) (value : Data)
    → checks_in (inline texts hashed value) ≡ checks_in (inline Made hashed value)
inline_told texts hashed value =
    then_same checks_in (required (named inline_named) field.InlineType value) _ _ (λ which.
    by which (optional text field.Source value)) where
      by : (which : InlineKind) (found : Result (Option (List ℕ)) DescriptionError)
          → checks_in ((found >>= λ source. source_beside texts hashed source value) >>= with_nonce texts which value)
          ≡ checks_in ((found >>= λ source. source_beside Made hashed source value) >>= with_nonce Made which value)
      by which (Ok source) = source_same texts hashed which value source
      by which (Err e) = refl

by_kind : (texts : ReportTexts) (hashed : List ℕ → Digests) (value : Data) (which : DescriptionKind)
    → checks_in (described_by texts hashed which value) ≡ checks_in (described_by Made hashed which value)
by_kind texts hashed value kind.Fetch = fetch_same texts value
by_kind texts hashed value kind.Inline = inline_told texts hashed value
by_kind texts hashed value kind.Eval = then_same checks_in (or_else [] text field.Source value) _ _ (λ source. refl)
by_kind texts hashed value kind.Wasm = refl
by_kind texts hashed value kind.Base = then_same checks_in (required web_url field.Url value) _ _ (λ there. refl)
by_kind texts hashed value kind.Form = form_same texts value
by_kind texts hashed value kind.Ancestors = ancestors_same texts value
by_kind texts hashed value kind.Capability = refl
by_kind texts hashed value kind.WorkerStart = refl

pub checks_same : (texts : ReportTexts) (hashed : List ℕ → Digests) (value : Data)
    → checks_in (described_for texts hashed value) ≡ checks_in (described_with hashed value)
checks_same texts hashed value =
    then_same checks_in _ _ _ (λ object. then_same checks_in (required (named kind_named) field.Kind value) _ _
    (by_kind texts hashed value))
