-- What the parts of a URL say of a host, a path and a scheme alone.
use Rattle.std.proofs.Common.{◌≡◌, refl, ℕ, List, [], ◌∷◌}
use Rattle.std.specs.Prelude.{Option, Some, None, Ok, codes}
use Rattle.percent_encoding.specs.Percent.{percent_decode}
use Rattle.csp_model.specs.Validity.{is_lower_scheme, is_domain, ends_in_number, is_domain_byte, is_piece}
use Rattle.csp_model.specs.Grammar.{is_scheme_char}
use Rattle.csp_model.specs.declared.url.Host.{Host}
use Rattle.csp_url.specs.Reading.{host_of, found_path}
use Rattle.csp_url.specs.Parts.{url_of_parts, or_bad, given_port}
use Rattle.csp_url.specs.declared.error.Part.TheVariants as part
use Rattle.csp_model.specs.declared.url.Scheme.TheVariants.{Https}
use Rattle.csp_model.specs.declared.url.Url.TheVariants as url
use Rattle.csp_model.specs.declared.url.Host.TheVariants.{Domain}
use Rattle.csp_proof.specs.Reading.{parts_from}

abbrev with_root : Option Host → Option (Host × List (List ℕ))
with_root (Some host) = Some (host, [] ∷ [])
with_root None = None

pub host_found : (text : List ℕ) → parts_from (url_of_parts (codes "https") (Some text) None (codes "/")) ≡ with_root (host_of text)
unfolding is_lower_scheme found_path is_piece is_scheme_char percent_decode
host_found text = by (host_of text) where
  by : (host : Option Host) → parts_from (or_bad host part.Host (λ host. or_bad (given_port Https None) part.Port (λ port. or_bad (found_path (codes "/")) part.Path (λ path. Ok (url.Hosted Https host port path))))) ≡ with_root host
  by None = refl
  by (Some host) = refl

abbrev with_host : Option (List (List ℕ)) → Option (Host × List (List ℕ))
with_host (Some path) = Some (Domain (codes "a"), path)
with_host None = None

pub path_found : (text : List ℕ) → parts_from (url_of_parts (codes "https") (Some (codes "a")) None text) ≡ with_host (found_path text)
unfolding is_lower_scheme is_scheme_char is_domain ends_in_number is_domain_byte
path_found text = by (found_path text) where
  by : (path : Option (List (List ℕ))) → parts_from (or_bad path part.Path (λ path. Ok (url.Hosted Https (Domain (codes "a")) None path))) ≡ with_host path
  by None = refl
  by (Some path) = refl
