-- What a proof unfolds to compute the definitions at texts that are written out.
use Rattle.std.specs.Prelude.{⊤}
use Rattle.std.specs.Fmt.{digits}
use Rattle.std.specs.Str.{chars, is_utf8}
use Rattle.percent_encoding.proofs.OnLiterals.{percent_encoding_on_literals}
use Rattle.base64.proofs.OnLiterals.{base64_on_literals}
use Rattle.url.proofs.OnLiterals.{url_on_literals}
use Rattle.hex.proofs.OnLiterals.{hex_on_literals}
use Rattle.json.proofs.OnLiterals.{json_on_literals}
use Rattle.serde_json.proofs.OnLiterals.{serde_json_on_literals}
use Rattle.csp_model.specs.Governing.{governor_named, place_of_name}
use Rattle.csp_model.specs.Grammar.{is_scheme_char, is_label_char, is_name, host_part_of, port_part_of, is_path_char, path_part_of, is_base64_char, is_base64_value}
use Rattle.csp_model.specs.Policies.{directive_of, is_token_char, is_field_name, is_field_value, header_of, line_of}
use Rattle.csp_model.specs.Reading.{is_host_char, is_no_slash, authority, host_source, scheme_source, keyword_source, quoted_value, nonce_source, hash_source, kind_of, source_of}
use Rattle.csp_desk.specs.Texts.{lines_text, tally_text, recent_text}
use Rattle.csp_token.specs.Integrity.{is_question_mark, is_hyphen}
use Rattle.csp_url.specs.Reading.{found_path}
use Rattle.csp_desk.specs.Report.{report_bytes}
use Rattle.csp_model.specs.Validity.{is_domain_byte, ends_in_number, is_domain, is_four_numbers, is_bracketed, is_address, is_piece, is_lower_scheme}

-- to read a source expression
unfoldable pub source_on_literals : ⊤
unfolding is_scheme_char is_label_char is_name host_part_of port_part_of is_path_char path_part_of is_base64_char is_base64_value is_host_char is_no_slash authority host_source scheme_source keyword_source quoted_value nonce_source hash_source kind_of source_of percent_encoding_on_literals
source_on_literals = tt

-- to read a header block
unfoldable pub policies_on_literals : ⊤
unfolding source_on_literals directive_of is_token_char is_field_name is_field_value header_of line_of
policies_on_literals = tt

-- to judge by it
unfoldable pub verdicts_on_literals : ⊤
unfolding policies_on_literals governor_named place_of_name base64_on_literals
verdicts_on_literals = tt

-- to see that a URL is valid
unfoldable pub validity_on_literals : ⊤
unfolding is_scheme_char is_domain_byte ends_in_number is_domain is_four_numbers is_bracketed is_address is_piece is_lower_scheme
validity_on_literals = tt

-- to read descriptions
unfoldable pub requests_on_literals : ⊤
unfolding serde_json_on_literals url_on_literals hex_on_literals percent_encoding_on_literals validity_on_literals chars is_utf8 found_path is_question_mark is_hyphen
requests_on_literals = tt

-- to print reports
unfoldable pub reports_on_literals : ⊤
unfolding json_on_literals digits report_bytes lines_text tally_text recent_text
reports_on_literals = tt
