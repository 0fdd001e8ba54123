-- A printed URL reads back.
use Rattle.std.proofs.Common.{arith, ◌≡◌, refl, ℕ, true, false, List, Option, Some, None, Ok}
use Rattle.std.specs.Prelude.{codes, is_some}
use Rattle.std.proofs.lemmas.Bool.{false_from_ne_true, le-leb}
use Rattle.std.proofs.lemmas.Bool.Decides.{nat_tests}
use Rattle.serde_json.specs.Find.{as_null}
use Rattle.csp_model.specs.Grammar.{is_scheme_char}
use Rattle.csp_model.specs.Paths.{host_text, path_text}
use Rattle.csp_model.specs.Schemes.{scheme_text, scheme_named}
use Rattle.csp_model.specs.Validity.{is_domain, is_address, is_lower_scheme, IsValidHost, IsValidPort, IsValidUrl}
use Rattle.csp_model.specs.declared.url.Scheme.{Scheme}
use Rattle.csp_model.specs.declared.url.Scheme.TheVariants.{Http, Https, Ws, Wss, Ftp}
use Rattle.csp_model.specs.declared.url.Host.{Host}
use Rattle.csp_model.specs.declared.url.Host.TheVariants.{Domain, Address}
use Rattle.csp_model.specs.declared.url.Url.{Url}
use Rattle.csp_model.specs.declared.url.Url.TheVariants as url
use Rattle.csp_facts.proofs.SpelledHosts.{host_told}
use Rattle.csp_url.specs.Reading.{host_of}
use Rattle.csp_url.specs.Parts.{given_port, url_of_parts}
use Rattle.csp_url.proofs.PathText.{path_back}
use Rattle.csp_request.specs.Json.{unless_null}
use Rattle.csp_request.specs.Members.{by_form, number}
use Rattle.csp_url.specs.Texts.{shown_url}
use Rattle.csp_request.specs.Urls.{shown_parts, web_url, located_url}
use Rattle.csp_request.specs.Printed.{port_data, url_data}
use Rattle.csp_request.specs.declared.field.Field.{Field}
use Rattle.csp_request.specs.declared.texts.ReportTexts.TheVariants.{Made}

-- Schemes, hosts and ports

scheme_back : (scheme : Scheme) → scheme_named (scheme_text scheme) ≡ Some scheme
scheme_back Http = refl
scheme_back Https = refl
scheme_back Ws = refl
scheme_back Wss = refl
scheme_back Ftp = refl

scheme_lower : (scheme : Scheme) → is_lower_scheme (scheme_text scheme) ≡ true
unfolding is_lower_scheme is_scheme_char
scheme_lower Http = refl
scheme_lower Https = refl
scheme_lower Ws = refl
scheme_lower Wss = refl
scheme_lower Ftp = refl

no_domain : (text : List ℕ) → is_address text ≡ true → is_domain text ≡ false
no_domain text address =
    false_from_ne_true (is_domain text) (λ domain.
    let same = host_told (Domain text) (Address text) domain address refl in cc same)

host_back : (host : Host) → IsValidHost host → host_of (host_text host) ≡ Some host
host_back (Domain text) valid = rw valid refl
host_back (Address text) valid = rw (no_domain text valid, valid) refl

port_kept : (scheme : Scheme) (port : Option ℕ) → IsValidPort scheme port → given_port scheme port ≡ Some port
port_kept scheme None valid = refl
port_kept scheme (Some n) valid = grind (arith, nat_tests, valid.0, valid.1)

port_back : (field : Field) (scheme : Scheme) (port : Option ℕ) → IsValidPort scheme port
    → by_form (number 65535) field (unless_null (port_data port)) ≡ Ok port
port_back field scheme None valid = refl
port_back field scheme (Some n) valid = rw (le-leb n 65535 (omega (arith, valid.0))) refl

-- URLs

none_named : {T : Type 0} (found : Option T) → is_some found ≡ false → found ≡ None
none_named None h = refl
none_named (Some x) h = cc h

parts_back : (scheme : Scheme) (host : Host) (port : Option ℕ) (path : List (List ℕ))
    → IsValidUrl (url.Hosted scheme host port path)
    → url_of_parts (scheme_text scheme) (Some (host_text host)) port (path_text path)
    ≡ Ok (url.Hosted scheme host port path)
parts_back scheme host port path valid =
    rw (
      scheme_lower scheme,
      scheme_back scheme,
      host_back host valid.0,
      port_kept scheme port valid.1,
      path_back path valid.2 valid.3,
    ) refl

plain_back : (scheme : List ℕ) → IsValidUrl (url.Plain scheme)
    → url_of_parts scheme None None (codes "/") ≡ Ok (url.Plain scheme)
plain_back scheme valid = rw (valid.0, none_named (scheme_named scheme) valid.1) refl

pub url_back : (field : Field) (there : Url) → IsValidUrl there
    → web_url field (url_data there) ≡ Ok there
url_back field (url.Plain scheme) valid = rw (plain_back scheme valid) refl
url_back field (url.Hosted scheme host port path) valid =
    rw (port_back field scheme port valid.1, parts_back scheme host port path valid) refl

pub located_back : (field : Field) (there : Url) → IsValidUrl there
    → located_url Made field (url_data there) ≡ Ok (shown_url (shown_parts there) there)
located_back field (url.Plain scheme) valid = rw (url_back field (url.Plain scheme) valid) refl
located_back field (url.Hosted scheme host port path) valid =
    rw (url_back field (url.Hosted scheme host port path) valid) refl

pub url_present : (there : Url) → is_some (as_null (url_data there)) ≡ false
url_present (url.Plain scheme) = refl
url_present (url.Hosted scheme host port path) = refl
