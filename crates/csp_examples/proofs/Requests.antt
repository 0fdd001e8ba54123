-- What descriptions in JSON stand for.
use Rattle.std.proofs.Common.{◌≡◌, refl, ℕ, true, false, List, [], ◌∷◌, ◌++◌, Option, Some, Result, Ok, Err}
use Rattle.std.specs.Prelude.{codes, option_map}
use Rattle.csp_model.specs.declared.check.Check.{Check}
use Rattle.csp_model.specs.declared.check.Check.TheVariants as check
use Rattle.csp_model.specs.declared.check.Group.TheVariants as group
use Rattle.csp_model.specs.declared.check.InlineKind.TheVariants as inline
use Rattle.csp_model.specs.declared.url.Scheme.TheVariants.{Https}
use Rattle.csp_model.specs.declared.url.Host.TheVariants.{Domain}
use Rattle.csp_model.specs.declared.url.Url.TheVariants as url
use Rattle.csp_model.specs.declared.verdict.Described.{Described}
use Rattle.serde_json.specs.Written.{compact_text}
use Rattle.csp_token.specs.Digests.{digests_of}
use Rattle.csp_request.specs.Described.{described, described_as}
use Rattle.csp_json.specs.Json.{json_of}
use Rattle.csp_request.specs.Printed.{printed}
use Rattle.csp_request.specs.Requests.{requests_of, check_of}
use Rattle.csp_request.specs.declared.error.CheckError.TheVariants as one
use Rattle.csp_request.specs.declared.error.DescriptionError.{DescriptionError}
use Rattle.csp_request.specs.declared.error.DescriptionError.TheVariants.{Misused, TooManyHops}
use Rattle.csp_request.specs.declared.error.RequestError.TheVariants as request
use Rattle.csp_request.specs.declared.field.Field.{Field}
use Rattle.csp_request.specs.declared.field.Field.TheVariants as field
use Rattle.csp_examples.proofs.OnLiterals.{requests_on_literals}
use Rattle.csp_examples.proofs.Values.{at, here}

-- what the JSON of a text stands for
abbrev asked : List ℕ → Option (Result Described DescriptionError)
asked text = option_map described (json_of text)

-- it is JSON, and this member is missing or misused
abbrev refused : Field → Option (Result Described DescriptionError)
refused field = Some (Err (Misused field))

-- a fetch of https://, the domain and this piece by a script element
abbrev script_after : ℕ → List ℕ → List ℕ → Check
script_after redirects name piece = check.Fetch group.ScriptElem (at Https name (piece ∷ [])) redirects [] [] false

-- Descriptions

-- each hop has one redirect more, and a response as many as the last
pub the_hops_of_a_chain :
    asked (codes "{\"kind\":\"fetch\",\"destination\":\"script\",\"urls\":[\"https://a.example/1\","
    ++ codes "\"https://b.example/2\"],\"response\":\"https://c.example/3\"}")
    ≡ Some (Ok (described_as
    (script_after 0 (codes "a.example") (codes "1") ∷ script_after 1 (codes "b.example") (codes "2")
    ∷ script_after 1 (codes "c.example") (codes "3") ∷ [])
    (codes "https://a.example/1") []))
unfolding requests_on_literals
the_hops_of_a_chain = refl

pub urls_beside_url :
    asked (codes "{\"kind\":\"fetch\",\"destination\":\"image\",\"urls\":[],\"url\":\"https://a.example/\"}")
    ≡ refused field.Urls
unfolding requests_on_literals
urls_beside_url = refl

pub no_urls : asked (codes "{\"kind\":\"fetch\",\"destination\":\"image\",\"urls\":[]}") ≡ refused field.Urls
unfolding requests_on_literals
no_urls = refl

pub redirects_beside_urls :
    asked (codes "{\"kind\":\"form\",\"urls\":[\"https://a.example/\"],\"redirects\":0}")
    ≡ refused field.Redirects
unfolding requests_on_literals
redirects_beside_urls = refl

-- 22 of them, which are looked at no further
pub too_many_hops :
    asked (codes "{\"kind\":\"form\",\"urls\":[0,0,0,0,0,0,0,0,0,0,0,0,0,0,0,0,0,0,0,0,0,0]}")
    ≡ Some (Err TooManyHops)
unfolding requests_on_literals
too_many_hops = refl

pub twenty_one_hops :
    asked (codes "{\"kind\":\"form\",\"urls\":[0,0,0,0,0,0,0,0,0,0,0,0,0,0,0,0,0,0,0,0,0]}")
    ≡ refused field.Urls
unfolding requests_on_literals
twenty_one_hops = refl

pub null_counts_as_absent :
    asked (codes "{\"kind\":\"form\",\"url\":\"https://a.example/\",\"urls\":null,\"redirects\":null}")
    ≡ Some (Ok (described_as (check.Form (here ([] ∷ [])) 0 ∷ []) (codes "https://a.example/") []))
unfolding requests_on_literals
null_counts_as_absent = refl

pub a_nonce_is_a_text :
    asked (codes "{\"kind\":\"fetch\",\"destination\":\"image\",\"url\":\"https://a.example/\",\"nonce\":7}")
    ≡ refused field.Nonce
unfolding requests_on_literals
a_nonce_is_a_text = refl

pub no_float_counts_redirects :
    asked (codes "{\"kind\":\"form\",\"url\":\"https://a.example/\",\"redirects\":1.0}")
    ≡ refused field.Redirects
unfolding requests_on_literals
no_float_counts_redirects = refl

pub the_last_of_two_members_counts :
    asked (codes "{\"kind\":\"eval\",\"kind\":\"wasm\"}")
    ≡ Some (Ok (described_as (check.Wasm ∷ []) (codes "wasm-eval") []))
unfolding requests_on_literals
the_last_of_two_members_counts = refl

pub a_report_asks_for_nothing :
    asked (codes "{\"kind\":\"fetch\",\"destination\":\"report\",\"url\":\"data:,x\"}")
    ≡ Some (Ok (described_as [] (codes "data") []))
unfolding requests_on_literals
a_report_asks_for_nothing = refl

pub a_url_of_another_scheme_has_no_host :
    asked (codes "{\"kind\":\"base\",\"url\":{\"scheme\":\"data\",\"host\":\"a.example\"}}")
    ≡ refused field.Url
unfolding requests_on_literals
a_url_of_another_scheme_has_no_host = refl

pub source_beside_digests :
    asked (codes "{\"kind\":\"inline\",\"type\":\"script\",\"source\":\"x()\",\"digests\":{}}")
    ≡ refused field.Digests
unfolding requests_on_literals
source_beside_digests = refl

pub neither_source_nor_digests :
    asked (codes "{\"kind\":\"inline\",\"type\":\"script\"}")
    ≡ refused field.Source
unfolding requests_on_literals
neither_source_nor_digests = refl

pub nonce_beside_element :
    asked (codes "{\"kind\":\"inline\",\"type\":\"script\",\"source\":\"x()\",\"nonce\":\"abc\","
    ++ codes "\"element\":{\"tag\":\"script\",\"attributes\":[]}}")
    ≡ refused field.Nonce
unfolding requests_on_literals
nonce_beside_element = refl

pub an_element_has_its_nonce :
    asked (codes "{\"kind\":\"inline\",\"type\":\"script\",\"source\":\"x()\","
    ++ codes "\"element\":{\"tag\":\"script\",\"attributes\":[[\"nonce\",\"abc\"]]}}")
    ≡ Some (Ok (described_as (check.Inline inline.Script (codes "abc") (digests_of (codes "x()")) ∷ [])
    (codes "inline") (codes "x()")))
unfolding requests_on_literals
an_element_has_its_nonce = refl

-- of another ancestor the origin alone counts
pub null_is_an_opaque_ancestor :
    asked (codes "{\"kind\":\"ancestors\",\"ancestors\":[\"null\",\"https://a.example/x\"]}")
    ≡ Some (Ok (described_as (check.OpaqueAncestor ∷ check.Ancestor (here ([] ∷ [])) ∷ []) [] []))
unfolding requests_on_literals
null_is_an_opaque_ancestor = refl

-- Files

pub the_first_bad_request_counts :
    requests_of (codes "[{\"kind\":\"eval\"},{\"kind\":\"x\"},{}]") ≡ Err (request.BadRequest 2 field.Kind)
unfolding requests_on_literals
the_first_bad_request_counts = refl

pub an_object_is_no_request_file : requests_of (codes "{}") ≡ Err request.NotJson
unfolding requests_on_literals
an_object_is_no_request_file = refl

pub two_ancestors_are_two_checks :
    check_of (codes "{\"kind\":\"ancestors\",\"ancestors\":[\"null\",\"null\"]}") ≡ Err one.NotOneCheck
unfolding requests_on_literals
two_ancestors_are_two_checks = refl

-- Printed checks

pub a_printed_image :
    compact_text (printed (check.Fetch group.Img
    (url.Hosted Https (Domain (codes "a.example")) (Some 8443) (codes "a b" ∷ codes "" ∷ [])) 1 [] [] true))
    ≡ codes "{\"destination\":\"image\",\"integrity\":\"\",\"kind\":\"fetch\",\"nonce\":\"\","
    ++ codes "\"parser-inserted\":true,\"redirects\":1,\"url\":{\"host\":\"a.example\","
    ++ codes "\"path\":\"/a%20b/\",\"port\":8443,\"scheme\":\"https\"}}"
unfolding requests_on_literals
a_printed_image = refl

pub a_printed_opaque_ancestor :
    compact_text (printed check.OpaqueAncestor)
    ≡ codes "{\"ancestors\":[\"null\"],\"kind\":\"ancestors\"}"
unfolding requests_on_literals
a_printed_opaque_ancestor = refl
