-- What policies say of the checks of shapes where a careless reading goes wrong, computed by the definitions.
use Rattle.std.proofs.Common.{◌≡◌, ℕ, Bool, true, false, List, [], ◌∷◌, Option, Some, None, map, refl}
use Rattle.std.specs.Prelude.{codes, ⊤}
use Rattle.base64.proofs.OnLiterals.{base64_on_literals}
use Rattle.percent_encoding.proofs.OnLiterals.{percent_encoding_on_literals}
use Rattle.csp_model.specs.Governing.{governor_named}
use Rattle.csp_model.specs.Grammar.{is_scheme_char, is_label_char, is_name, host_part_of, port_part_of, is_path_char, path_part_of, is_base64_char, is_base64_value}
use Rattle.csp_model.specs.Policies.{directive_of, directives_of}
use Rattle.csp_model.specs.Reading.{is_host_char, is_no_slash, authority, host_source, scheme_source, keyword_source, quoted_value, nonce_source, hash_source, kind_of, source_of}
use Rattle.csp_model.specs.Validity.{is_domain_byte, ends_in_number, is_domain, is_four_numbers}
use Rattle.csp_model.specs.declared.check.Group.TheVariants.{Img, ScriptElem, StyleElem, Worker}
use Rattle.csp_model.specs.declared.check.InlineKind.TheVariants as kind
use Rattle.csp_model.specs.declared.policy.Disposition.TheVariants.{Enforce}
use Rattle.csp_model.specs.declared.policy.Policy.{Policy}
use Rattle.csp_model.specs.declared.source.Algorithm.TheVariants.{Sha256}
use Rattle.csp_model.specs.declared.source.Hash.{Hash}
use Rattle.csp_model.specs.declared.url.Host.TheVariants.{Domain}
use Rattle.csp_model.specs.declared.url.Origin.{Origin}
use Rattle.csp_model.specs.declared.url.Origin.TheVariants.{Opaque, Tuple}
use Rattle.csp_model.specs.declared.url.Scheme.TheVariants.{Http, Https, Ws}
use Rattle.csp_facts.specs.declared.atom.Atom.TheVariants.{HostIs, PortIs, PathIs, SchemeIs, NonceIs, IntegrityHas, IntegrityOutside}
use Rattle.csp_facts.specs.declared.atom.Literal.{Literal}
use Rattle.csp_facts.specs.declared.shape.Shape.{Shape}
use Rattle.csp_facts.specs.declared.shape.Shape.TheVariants.{Fetch, Ancestor, Inline}
use Rattle.csp_formula.specs.Surely.{surely}
use Rattle.csp_formula.specs.Compiled.{policy_sentence}
use Rattle.csp_formula.proofs.Examples.{is, is_not}

-- what a row unfolds
unfoldable on_literals : ⊤
unfolding base64_on_literals percent_encoding_on_literals is_scheme_char is_label_char is_name host_part_of port_part_of is_path_char path_part_of is_base64_char is_base64_value is_host_char is_no_slash authority host_source scheme_source keyword_source quoted_value nonce_source hash_source kind_of source_of directive_of governor_named is_domain_byte ends_in_number is_domain is_four_numbers
on_literals = tt

-- a page of https://a.example, and one of https://a.example:8443, of http://a.example:443 and of an opaque origin
abbrev page : Origin
page = Tuple Https (Domain (codes "a.example")) None

abbrev page_at_8443 : Origin
page_at_8443 = Tuple Https (Domain (codes "a.example")) (Some 8443)

abbrev http_page_at_443 : Origin
http_page_at_443 = Tuple Http (Domain (codes "a.example")) (Some 443)

abbrev policy : Origin → List ℕ → Policy
policy self value = record { disposition = Enforce; meta = false; origin = self; directives = directives_of value }

-- images over https, directly and after a redirect, over ws, and of other schemes
abbrev image : Shape
image = Fetch Img (Some Https) false false

abbrev redirected_image : Shape
redirected_image = Fetch Img (Some Https) true false

abbrev ws_image : Shape
ws_image = Fetch Img (Some Ws) false false

abbrev other_image : Shape
other_image = Fetch Img None false false

-- scripts that the parser inserted, others, styles, workers, and ancestors, over https
abbrev parsed_script : Shape
parsed_script = Fetch ScriptElem (Some Https) false true

abbrev script : Shape
script = Fetch ScriptElem (Some Https) false false

abbrev style : Shape
style = Fetch StyleElem (Some Https) false false

abbrev worker : Shape
worker = Fetch Worker (Some Https) false false

abbrev ancestor : Shape
ancestor = Ancestor (Some Https)

abbrev here : Literal
here = is (HostIs (Domain (codes "a.example")))

abbrev at : ℕ → Literal
at n = is (PortIs n)

abbrev abc : Literal
abc = is (NonceIs (codes "abc"))

-- two hashes of the vocabulary
abbrev one : Hash
one = record { algorithm = Sha256; value = codes "QUJD" }

abbrev two : Hash
two = record { algorithm = Sha256; value = codes "REVG" }

abbrev no_pairs : Literal
no_pairs = is_not (IntegrityHas one)

-- a policy, a shape, literals, and what they decide
record Row : Type 0 where
  self : Origin
  value : List ℕ
  kind : Shape
  literals : List Literal
  answer : Option Bool

abbrev row : Origin → List ℕ → Shape → List Literal → Option Bool → Row
row self value kind literals answer = record { self = self; value = value; kind = kind; literals = literals; answer = answer }

abbrev Hold : List Row → Type 0
Hold rows =
    map (λ (r : Row). surely r.literals (policy_sentence (policy r.self r.value) r.kind (one ∷ two ∷ []))) rows
    ≡ map (λ (r : Row). r.answer) rows

paths : Hold (
    row page (codes "img-src https://a.example/x") image (here ∷ at 443 ∷ []) None
    ∷ row page (codes "img-src https://a.example/x") image (here ∷ at 443 ∷ is (PathIs (codes "x" ∷ [])) ∷ []) (Some true)
    ∷ row page (codes "img-src https://a.example/x") image (here ∷ at 443 ∷ is (PathIs (codes "y" ∷ [])) ∷ []) (Some false)
    -- after a redirect no path is looked at
    ∷ row page (codes "img-src https://a.example/x") redirected_image (here ∷ at 443 ∷ []) (Some true)
    -- "/" begins every path, and is no ancestor's but as such
    ∷ row page (codes "img-src https://a.example/") image (here ∷ at 443 ∷ []) (Some true)
    ∷ row page (codes "frame-ancestors https://a.example/") ancestor (here ∷ at 443 ∷ []) (Some true)
    ∷ row page (codes "frame-ancestors https://a.example/x") ancestor [] (Some false) ∷ [])
unfolding on_literals
paths = refl

origins : Hold (
    row page (codes "img-src 'self'") image (here ∷ at 443 ∷ []) (Some true)
    ∷ row page (codes "img-src 'self'") image (here ∷ at 8443 ∷ []) (Some false)
    -- the origin's port, which isn't the default of the URL's scheme
    ∷ row page_at_8443 (codes "img-src 'self'") image (here ∷ at 8443 ∷ []) (Some true)
    ∷ row page_at_8443 (codes "img-src 'self'") image (here ∷ at 443 ∷ []) (Some false)
    -- a URL of https that names no port hasn't the port 443 that the origin names
    ∷ row http_page_at_443 (codes "img-src 'self'") image [] (Some false)
    -- https takes no ws
    ∷ row page (codes "img-src 'self'") ws_image [] (Some false)
    -- an opaque origin has no scheme and no host
    ∷ row Opaque (codes "img-src 'self'") image [] (Some false)
    ∷ row Opaque (codes "img-src a.example") image [] (Some false)
    ∷ row Opaque (codes "img-src https://a.example") image (here ∷ at 443 ∷ []) (Some true)
    -- a scheme that isn't one of the five
    ∷ row page (codes "img-src data:") other_image (is (SchemeIs (codes "data")) ∷ []) (Some true)
    ∷ row page (codes "img-src https: *") other_image [] (Some false) ∷ [])
unfolding on_literals
origins = refl

scripts : Hold (
    -- the script check's parts: a nonce, integrity, and the list or 'strict-dynamic'
    row page (codes "script-src 'nonce-abc'") script (abc ∷ []) (Some true)
    ∷ row page (codes "script-src 'sha256-QUJD'") script (is (IntegrityHas one) ∷ is_not (IntegrityHas two) ∷ is_not IntegrityOutside ∷ []) (Some true)
    ∷ row page (codes "script-src 'sha256-QUJD'") script (is (IntegrityHas one) ∷ is (IntegrityHas two) ∷ []) (Some false)
    ∷ row page (codes "script-src 'sha256-QUJD'") script (is (IntegrityHas one) ∷ is IntegrityOutside ∷ []) (Some false)
    ∷ row page (codes "script-src 'sha256-QUJD'") script (no_pairs ∷ []) (Some false)
    ∷ row page (codes "script-src https:") script [] (Some true)
    ∷ row page (codes "script-src 'strict-dynamic'") script [] (Some true)
    ∷ row page (codes "script-src 'strict-dynamic' https:") parsed_script [] (Some false)
    -- a worker takes the script check under script-src alone
    ∷ row page (codes "script-src 'nonce-abc'") worker (abc ∷ []) (Some true)
    ∷ row page (codes "worker-src 'nonce-abc'") worker (abc ∷ []) (Some false)
    ∷ row page (codes "default-src 'nonce-abc'") worker (abc ∷ []) (Some false)
    -- a style takes nonces and the list, and no integrity
    ∷ row page (codes "style-src 'nonce-abc'") style (abc ∷ []) (Some true)
    ∷ row page (codes "style-src 'sha256-QUJD'") style [] (Some false) ∷ [])
unfolding on_literals
scripts = refl

inline_code : Hold (
    row page (codes "script-src 'unsafe-inline'") (Inline kind.Script) [] (Some true)
    -- 'unsafe-inline' is void beside a nonce, and for code beside 'strict-dynamic'
    ∷ row page (codes "script-src 'unsafe-inline' 'nonce-abc'") (Inline kind.Script) (is_not (NonceIs (codes "abc")) ∷ []) (Some false)
    ∷ row page (codes "script-src 'unsafe-inline' 'nonce-abc'") (Inline kind.Script) (abc ∷ []) (Some true)
    ∷ row page (codes "script-src 'unsafe-inline' 'strict-dynamic'") (Inline kind.Script) [] (Some false)
    ∷ row page (codes "style-src 'unsafe-inline' 'strict-dynamic'") (Inline kind.Style) [] (Some true)
    -- a nonce counts for elements alone
    ∷ row page (codes "script-src 'nonce-abc'") (Inline kind.ScriptAttribute) (abc ∷ []) (Some false)
    -- three bytes are no digest
    ∷ row page (codes "script-src 'sha256-QUJD'") (Inline kind.Script) [] (Some false) ∷ [])
unfolding on_literals
inline_code = refl
