-- What policies say of the checks of single shapes, computed by the definitions.
use Rattle.std.proofs.Common.{◌≡◌, ℕ, Bool, true, false, List, [], ◌∷◌, Option, Some, None, map, refl}
use Rattle.std.specs.Prelude.{codes}
use Rattle.percent_encoding.proofs.OnLiterals.{percent_encoding_on_literals}
use Rattle.csp_model.specs.Governing.{governor_named}
use Rattle.csp_model.specs.Grammar.{is_scheme_char, is_label_char, is_name, host_part_of, port_part_of, is_path_char, path_part_of, is_base64_char, is_base64_value}
use Rattle.csp_model.specs.Policies.{directive_of, directives_of}
use Rattle.csp_model.specs.Reading.{is_host_char, is_no_slash, authority, host_source, scheme_source, keyword_source, quoted_value, nonce_source, hash_source, kind_of, source_of}
use Rattle.csp_model.specs.Validity.{is_domain_byte, ends_in_number, is_domain, is_four_numbers}
use Rattle.csp_model.specs.declared.check.Group.TheVariants.{Img, Manifest}
use Rattle.csp_model.specs.declared.policy.Disposition.TheVariants.{Enforce}
use Rattle.csp_model.specs.declared.policy.Policy.{Policy}
use Rattle.csp_model.specs.declared.url.Host.TheVariants.{Domain, Address}
use Rattle.csp_model.specs.declared.url.Origin.TheVariants.{Tuple}
use Rattle.csp_model.specs.declared.url.Scheme.TheVariants.{Http, Https}
use Rattle.csp_facts.specs.declared.atom.Atom.{Atom}
use Rattle.csp_facts.specs.declared.atom.Atom.TheVariants.{HostIs, PortIs}
use Rattle.csp_facts.specs.declared.atom.Literal.{Literal}
use Rattle.csp_facts.specs.declared.shape.Shape.{Shape}
use Rattle.csp_facts.specs.declared.shape.Shape.TheVariants.{Fetch}
use Rattle.csp_formula.specs.Surely.{surely}
use Rattle.csp_formula.specs.Compiled.{policy_sentence}

-- an enforced policy of a page of https://a.example
abbrev policy : List ℕ → Policy
policy value = record {
  disposition = Enforce;
  meta = false;
  origin = Tuple Https (Domain (codes "a.example")) None;
  directives = directives_of value;
}

-- images over http and over https, and manifests over http
abbrev http_image : Shape
http_image = Fetch Img (Some Http) false false

abbrev image : Shape
image = Fetch Img (Some Https) false false

abbrev manifest : Shape
manifest = Fetch Manifest (Some Http) false false

abbrev pub is : Atom → Literal
is atom = record { atom = atom; positive = true }

abbrev pub is_not : Atom → Literal
is_not atom = record { atom = atom; positive = false }

-- a policy, a shape, literals, and what they decide
record Row : Type 0 where
  value : List ℕ
  kind : Shape
  literals : List Literal
  answer : Option Bool

abbrev row : List ℕ → Shape → List Literal → Option Bool → Row
row value kind literals answer = record { value = value; kind = kind; literals = literals; answer = answer }

abbrev Hold : List Row → Type 0
Hold rows =
    map (λ (r : Row). surely r.literals (policy_sentence (policy r.value) r.kind [])) rows
    ≡ map (λ (r : Row). r.answer) rows

hosts_and_ports : Hold (
    row (codes "img-src https://a.example:443") image [] None
    ∷ row (codes "img-src https://a.example:443") image (is (HostIs (Domain (codes "a.example"))) ∷ is (PortIs 443) ∷ []) (Some true)
    ∷ row (codes "img-src https://a.example:443") image (is_not (HostIs (Domain (codes "a.example"))) ∷ []) (Some false)
    -- https alone is asked for
    ∷ row (codes "img-src https://a.example:443") http_image [] (Some false)
    -- nothing governs
    ∷ row (codes "img-src https://a.example:443") manifest [] (Some true)
    -- a suffix that is no domain, and a path with a piece that no URL has
    ∷ row (codes "img-src https://*.0.0.1") image [] (Some false)
    ∷ row (codes "img-src https://a.example/x/../y") image [] (Some false)
    -- an address
    ∷ row (codes "img-src https://10.0.0.1") image (is (HostIs (Address (codes "10.0.0.1"))) ∷ is (PortIs 443) ∷ []) (Some true)
    ∷ row (codes "img-src https://10.0.0.1") image (is (HostIs (Domain (codes "a.example"))) ∷ is (PortIs 443) ∷ []) (Some false)
    -- a leading zero, and a dot at the end
    ∷ row (codes "img-src https://010.0.0.1") image [] (Some false)
    ∷ row (codes "img-src https://10.0.0.1.") image [] (Some false)
    -- "*" asks for a domain
    ∷ row (codes "img-src https://*") image (is (HostIs (Address (codes "10.0.0.1"))) ∷ []) (Some false) ∷ [])
unfolding percent_encoding_on_literals is_scheme_char is_label_char is_name host_part_of port_part_of is_path_char path_part_of is_base64_char is_base64_value is_host_char is_no_slash authority host_source scheme_source keyword_source quoted_value nonce_source hash_source kind_of source_of directive_of governor_named is_domain_byte ends_in_number is_domain is_four_numbers
hosts_and_ports = refl
