-- What is read is valid.
use Rattle.std.proofs.Common.{arith, ◌≡◌, ◌≢◌, ◌∙◌, ap, refl, subst, ℕ, Bool, true, false, nat_lt, List, [], ◌∷◌, length, Option, Some, None, Result, Ok, Err, IsTrue, inl, inr, ◌⊎◌}
use Rattle.std.specs.Prelude.{◌==◌, is_some, IfOk, option_map, option_and_then, if◌then◌else◌, bytes_eq, codes}
use Rattle.std.specs.List.{list_all, slice_split}
use Rattle.std.specs.Result.{result_ok}
use Rattle.std.proofs.lemmas.Bool.Decides.{nat_tests, eqb_tells}
use Rattle.std.proofs.lemmas.List.{length-map}
use Rattle.std.proofs.lemmas.List.Splits.{length-slice_split}
use Rattle.percent_encoding.specs.Percent.{percent_decode}
use Rattle.url.specs.Parts.{Parts, nonempty_host}
use Rattle.url.specs.declared.host.Host as web
use Rattle.url.specs.declared.host.Host.TheVariants as web_host
use Rattle.csp_model.specs.Ascii.{code}
use Rattle.csp_model.specs.Grammar.{pieces_of}
use Rattle.csp_model.specs.Answers.{Gives}
use Rattle.csp_model.specs.Schemes.{scheme_named, default_port}
use Rattle.csp_model.specs.Validity.{is_domain, is_address, is_piece, is_lower_scheme, IsValidHost, IsValidPort, IsValidUrl, IsValidOrigin}
use Rattle.csp_url.specs.Types.{Scheme, Host, Url, Origin, Part, PartsError}
use Rattle.csp_model.specs.declared.url.Scheme.TheVariants.{Http, Https, Ws, Wss, Ftp}
use Rattle.csp_model.specs.declared.url.Host.TheVariants.{Domain, Address}
use Rattle.csp_url.specs.Reading.{domain_of, address_of, host_of, found_host, is_port, found_port, whole_pieces, found_path, hosted_from, plain_from, url_by, url_from, parts_of, url_of}
use Rattle.csp_url.specs.Parts.{given_host, kept_port, given_port, or_bad, hosted_of_parts}
use Rattle.csp_url.specs.Origins.{is_bare, is_web, web_origin, origin_from, origin_of}
use Rattle.csp_url.specs.declared.error.PartsError.TheVariants.{Memory}

-- Choices and steps

some_if : {A : Type 0} (b : Bool) (v x : A) → (if b then Some v else None) ≡ Some x → (b ≡ true) × (v ≡ x)
some_if true v x h = (refl, cc)
some_if false v x h = absurd (cc h)

and_then_some : {A B : Type 0} (o : Option A) (f : A → Option B) (y : B) → option_and_then f o ≡ Some y → (x : A) × (o ≡ Some x) × (f x ≡ Some y)
and_then_some (Some x) f y h = (x, refl, h)
and_then_some None f y h = absurd (cc h)

map_some : {A B : Type 0} (o : Option A) (f : A → B) (y : B) → option_map f o ≡ Some y → (x : A) × (o ≡ Some x) × (f x ≡ y)
map_some (Some x) f y h = (x, refl, cc)
map_some None f y h = absurd (cc h)

-- a result's value is the one that was found
pub if_ok : {T E : Type 0} (P : T → Type 0) (result : Result T E) (found : Option T) → found ≡ result_ok result
    → ((value : T) → found ≡ Some value → P value) → IfOk result P
if_ok P (Ok value) found is valid = valid value is
if_ok P (Err e) found is valid = tt

or_bad_ok : {A : Type 0} (o : Option A) (bad : Part) (next : A → Result Url PartsError) (y : Url) → or_bad o bad next ≡ Ok y → (x : A) × (o ≡ Some x) × (next x ≡ Ok y)
or_bad_ok (Some x) bad next y h = (x, refl, h)
or_bad_ok None bad next y h = absurd (cc h)

-- Hosts

domain_valid : (text : List ℕ) (host : Host) → domain_of text ≡ Some host → IsValidHost host
domain_valid text host h = let c = some_if (is_domain text) (Domain text) host h in subst IsValidHost c.1 c.0

address_valid : (text : List ℕ) (host : Host) → address_of text ≡ Some host → IsValidHost host
address_valid text host h = let c = some_if (is_address text) (Address text) host h in subst IsValidHost c.1 c.0

found_host_valid : (found : web.Host (List ℕ)) (host : Host) → found_host found ≡ Some host → IsValidHost host
found_host_valid (web_host.Domain text) host h = domain_valid text host h
found_host_valid (web_host.Ipv4 address) host h = address_valid _ host h
found_host_valid (web_host.Ipv6 address) host h = address_valid _ host h

host_of_valid : (text : List ℕ) (host : Host) → host_of text ≡ Some host → IsValidHost host
host_of_valid text host h = by (is_domain text) refl h where
  by : (b : Bool) → is_domain text ≡ b → (if b then Some (Domain text) else address_of text) ≡ Some host → IsValidHost host
  by true is e = let same : Domain text ≡ host = cc in subst IsValidHost same is
  by false is e = address_valid text host e

given_host_valid : (given : Option (List ℕ)) (host : Host) → given_host given ≡ Some host → IsValidHost host
given_host_valid None host h = absurd (cc h)
given_host_valid (Some text) host h = host_of_valid text host h

-- Ports

is_port_valid : (scheme : Scheme) (port : Option ℕ) → is_port scheme port ≡ true → IsValidPort scheme port
is_port_valid scheme None h = tt
is_port_valid scheme (Some n) h = elim (eqb_tells n (default_port scheme)) [
  | inl same ↦ absurd (let e = same.0 in grind (arith, nat_tests, h, e))
  | inr other ↦ (grind (arith, nat_tests, h), other.1)
]

found_port_valid : (scheme : Scheme) (port number : Option ℕ) → found_port scheme port ≡ Some number → IsValidPort scheme number
found_port_valid scheme port number h = let c = some_if (is_port scheme port) port number h in subst (IsValidPort scheme) c.1 (is_port_valid scheme port c.0)

kept_port_valid : (scheme : Scheme) (n : ℕ) → nat_lt n 65536 ≡ true → IsValidPort scheme (kept_port scheme n)
kept_port_valid scheme n h = elim (eqb_tells n (default_port scheme)) [
  | inl same ↦ rw same.0 tt
  | inr other ↦ rw other.0 (grind (arith, nat_tests, h), other.1)
]

given_port_valid : (scheme : Scheme) (port number : Option ℕ) → given_port scheme port ≡ Some number → IsValidPort scheme number
given_port_valid scheme None number h = let same : None ≡ number = cc in subst (IsValidPort scheme) same tt
given_port_valid scheme (Some n) number h = let c = some_if (nat_lt n 65536) (kept_port scheme n) number h in subst (IsValidPort scheme) c.1 (kept_port_valid scheme n c.0)

-- Paths

nonempty_split : (text : List ℕ) → pieces_of text ≢ []
nonempty_split text h = let e : length (pieces_of text) ≡ 0 = ap length h in
    let some = length-map (slice_split (λ b. b == code "/") text) percent_decode ∙ length-slice_split (λ b. b == code "/") text in
    omega (arith, e, some)

pub path_valid : (text : List ℕ) (pieces : List (List ℕ)) → found_path text ≡ Some pieces → (pieces ≢ []) × IsTrue (list_all is_piece pieces)
unfolding found_path
path_valid [] pieces h = absurd (cc h)
path_valid (b ∷ text) pieces h = by (b == code "/") h where
  by : (s : Bool) → (if s then whole_pieces (pieces_of text) else None) ≡ Some pieces → (pieces ≢ []) × IsTrue (list_all is_piece pieces)
  by true e = let c = some_if (list_all is_piece (pieces_of text)) (pieces_of text) pieces e in
      (subst (λ ps. ps ≢ []) c.1 (nonempty_split text), subst (λ ps. IsTrue (list_all is_piece ps)) c.1 c.0)
  by false e = absurd (cc e)

-- URLs

hosted_valid : (scheme : Scheme) (parts : Parts) (there : Url) → hosted_from scheme parts ≡ Some there → IsValidUrl there
hosted_valid scheme parts there h =
    let a = and_then_some (option_and_then found_host (nonempty_host parts)) _ there h in
    let b = and_then_some (nonempty_host parts) found_host a.0 a.1 in
    let c = and_then_some (found_port scheme parts.port) _ there a.2 in
    let d = map_some (found_path parts.path) _ there c.2 in
    let path = path_valid parts.path d.0 d.1 in
    subst IsValidUrl d.2 (found_host_valid b.0 a.0 b.2, found_port_valid scheme parts.port c.0 c.1, path.0, path.1)

plain_valid : (scheme : List ℕ) (there : Url) → scheme_named scheme ≡ None → plain_from scheme ≡ Some there → IsValidUrl there
plain_valid scheme there none h = let c = some_if (is_lower_scheme scheme) (Url.Plain scheme) there h in subst IsValidUrl c.1 (c.0, ap is_some none)

parts_valid : (parts : Parts) (there : Url) → url_from parts ≡ Some there → IsValidUrl there
parts_valid parts there h = by (scheme_named parts.scheme) refl h where
  by : (s : Option Scheme) → scheme_named parts.scheme ≡ s → url_by s parts ≡ Some there → IsValidUrl there
  by (Some scheme) is e = hosted_valid scheme parts there e
  by None is e = plain_valid parts.scheme there is e

-- the URL that a text is is valid
pub url_valid : (text : List ℕ) (there : Url) → url_of text ≡ Some there → IsValidUrl there
url_valid text there h = let c = and_then_some (parts_of text) url_from there h in parts_valid c.0 there c.2

-- Parts

pub hosted_of_parts_valid : (scheme : Scheme) (host : Option (List ℕ)) (port : Option ℕ) (path : List ℕ) (there : Url) → hosted_of_parts scheme host port path ≡ Ok there → IsValidUrl there
hosted_of_parts_valid scheme host port path there h =
    let a = or_bad_ok (given_host host) Part.Host _ there h in
    let b = or_bad_ok (given_port scheme port) Part.Port _ there a.2 in
    let c = or_bad_ok (found_path path) Part.Path _ there b.2 in
    let pieces = path_valid path c.0 c.1 in
    let same : Url.Hosted scheme a.0 b.0 c.0 ≡ there = cc in
    subst IsValidUrl same (given_host_valid host a.0 a.1, given_port_valid scheme port b.0 b.1, pieces.0, pieces.1)

-- what is made of the parts of a URL with a host is valid
pub hosted_made : (scheme : Scheme) (host : Option (List ℕ)) (port : Option ℕ) (path : List ℕ)
    (made : Result Url PartsError) → Gives Memory made (hosted_of_parts scheme host port path) → IfOk made IsValidUrl
hosted_made scheme host port path (Ok there) h = hosted_of_parts_valid scheme host port path there h
hosted_made scheme host port path (Err e) h = tt

-- Origins

web_is : (scheme : Scheme) → is_web scheme ≡ true → (scheme ≡ Http) ⊎ (scheme ≡ Https)
web_is Http h = inl refl
web_is Https h = inr refl
web_is Ws h = absurd (cc h)
web_is Wss h = absurd (cc h)
web_is Ftp h = absurd (cc h)

web_origin_valid : (there : Url) (made : Origin) → IsValidUrl there → web_origin there ≡ Some made → IsValidOrigin made
web_origin_valid (Url.Plain scheme) made valid h = absurd (cc h)
web_origin_valid (Url.Hosted scheme host port path) made valid h =
    let c = some_if (is_web scheme) (Origin.Tuple scheme host port) made h in
    subst IsValidOrigin c.1 (web_is scheme c.0, valid.0, valid.1)

origin_from_valid : (parts : Parts) (made : Origin) → origin_from parts ≡ Some made → IsValidOrigin made
origin_from_valid parts made h = by (is_bare parts) h where
  by : (b : Bool) → (if b then option_and_then web_origin (url_from parts) else None) ≡ Some made → IsValidOrigin made
  by true e = let c = and_then_some (url_from parts) web_origin made e in web_origin_valid c.0 made (parts_valid parts c.0 c.1) c.2
  by false e = absurd (cc e)

-- the origin that a text is is valid
pub origin_valid : (text : List ℕ) (made : Origin) → origin_of text ≡ Some made → IsValidOrigin made
origin_valid text made h = by (bytes_eq text (codes "null")) h where
  by : (b : Bool) → (if b then Some Origin.Opaque else option_and_then origin_from (parts_of text)) ≡ Some made → IsValidOrigin made
  by true e = let same : Origin.Opaque ≡ made = cc in subst IsValidOrigin same tt
  by false e = let c = and_then_some (parts_of text) origin_from made e in origin_from_valid c.0 made c.2
