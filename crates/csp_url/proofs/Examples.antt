-- What the definitions say of single texts.
use Rattle.std.proofs.Common.{◌≡◌, refl, [], ◌∷◌, Some, None}
use Rattle.std.specs.Prelude.{codes, Err}
use Rattle.url.proofs.OnLiterals.{url_on_literals}
use Rattle.percent_encoding.proofs.OnLiterals.{percent_encoding_on_literals}
use Rattle.csp_model.specs.declared.url.Scheme.TheVariants.{Https}
use Rattle.csp_model.specs.declared.url.Host.TheVariants.{Domain}
use Rattle.csp_model.specs.declared.url.Url.TheVariants.{Hosted}
use Rattle.csp_model.specs.declared.url.Origin.TheVariants.{Tuple}
use Rattle.csp_model.specs.Validity.{is_domain, is_domain_byte, ends_in_number, is_address, is_four_numbers, is_bracketed, is_piece, is_lower_scheme}
use Rattle.csp_model.specs.Grammar.{is_scheme_char}
use Rattle.csp_url.specs.Types.{Part}
use Rattle.csp_url.specs.declared.error.PartsError.TheVariants.{Bad}
use Rattle.csp_url.specs.Reading.{found_path, url_of}
use Rattle.csp_url.specs.Parts.{url_of_parts}
use Rattle.csp_url.specs.Origins.{origin_of}
use Rattle.csp_url.specs.Texts.{url_text, stripped_of}

-- every part
pub every_part : url_of (codes "https://u:p@B.example:443/a/../%7Eb?q#f") ≡ Some (Hosted Https (Domain (codes "b.example")) None (codes "~b" ∷ []))
unfolding url_on_literals percent_encoding_on_literals found_path is_domain is_domain_byte ends_in_number is_piece
every_part = refl

pub every_part_again : url_text (Hosted Https (Domain (codes "b.example")) None (codes "~b" ∷ [])) ≡ codes "https://b.example/~b"
unfolding percent_encoding_on_literals
every_part_again = refl

pub every_part_stripped : stripped_of (codes "https://u:p@B.example:443/a/../%7Eb?q#f") ≡ Some (codes "https://b.example/%7Eb?q")
unfolding url_on_literals percent_encoding_on_literals found_path is_domain is_domain_byte ends_in_number is_piece
every_part_stripped = refl

pub no_url : url_of (codes "//") ≡ None
unfolding url_on_literals percent_encoding_on_literals
no_url = refl

pub upper_case_host : url_of_parts (codes "https") (Some (codes "B.example")) None (codes "/") ≡ Err (Bad Part.Host)
unfolding is_lower_scheme is_scheme_char is_domain is_domain_byte ends_in_number is_address is_four_numbers is_bracketed
upper_case_host = refl

pub path_in_origin : origin_of (codes "https://a.example/x") ≡ None
unfolding url_on_literals percent_encoding_on_literals
path_in_origin = refl

pub default_port_in_origin : origin_of (codes "https://A.example:443") ≡ Some (Tuple Https (Domain (codes "a.example")) None)
unfolding url_on_literals percent_encoding_on_literals found_path is_domain is_domain_byte ends_in_number is_piece
default_port_in_origin = refl

pub slash_in_origin : origin_of (codes "https://a.example/") ≡ Some (Tuple Https (Domain (codes "a.example")) None)
unfolding url_on_literals percent_encoding_on_literals found_path is_domain is_domain_byte ends_in_number is_piece
slash_in_origin = refl

-- an empty query or fragment is one, an empty user name is none
pub empty_query_in_origin : origin_of (codes "https://a.example?") ≡ None
unfolding url_on_literals percent_encoding_on_literals
empty_query_in_origin = refl

pub empty_fragment_in_origin : origin_of (codes "https://a.example/#") ≡ None
unfolding url_on_literals percent_encoding_on_literals
empty_fragment_in_origin = refl

pub empty_user_in_origin : origin_of (codes "https://@a.example") ≡ Some (Tuple Https (Domain (codes "a.example")) None)
unfolding url_on_literals percent_encoding_on_literals found_path is_domain is_domain_byte ends_in_number is_piece
empty_user_in_origin = refl
