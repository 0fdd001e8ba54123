-- The source of a token (Content Security Policy Level 3, section 2.3.1), as a function that computes. The
-- grammar says what is a source; this says which one it is, and the two are one.
use Rattle.std.specs.Prelude.{ℕ, Bool, ◌&&◌, ◌||◌, not, nat_eq, ◌==◌, if◌then◌else◌, List, [], ◌∷◌, ◌++◌, drop, take, length, Option, Some, None, unwrap_or, codes, take_while}
use Rattle.std.specs.List.{starts_with, find}
use Rattle.std.specs.Option.{option_map, option_and_then}
use Rattle.std.specs.Str.{bytes_eq}
use Rattle.csp_model.specs.Ascii.{code, lower, ends_in, without_last, skip_while}
use Rattle.csp_model.specs.Grammar.{is_scheme_char, is_scheme, is_label_char, host_part_of, port_part_of, path_part_of, keyword_text, is_base64_value, algorithm_text}
use Rattle.csp_model.specs.Types.{Algorithm, Keyword, Source}
use Rattle.csp_model.specs.declared.source.Algorithm.TheVariants.{Sha256, Sha384, Sha512}
use Rattle.csp_model.specs.declared.source.TheConstants.Keyword as every_keyword

unfoldable pub is_host_char : ℕ → Bool
is_host_char c = is_label_char c || c == code "." || c == code "*"

unfoldable pub is_no_slash : ℕ → Bool
is_no_slash c = not (c == code "/")

-- a host-source behind its scheme-part
unfoldable pub authority : Option (List ℕ) → List ℕ → Option Source
authority scheme text =
    option_and_then (λ host. option_and_then (λ port. option_map (λ path. Source.Hosted scheme host port path)
    (path_part_of (skip_while is_no_slash (skip_while is_host_char text))))
    (port_part_of (take_while is_no_slash (skip_while is_host_char text))))
    (host_part_of (take_while is_host_char text))

unfoldable pub host_source : List ℕ → Option Source
host_source token =
    if is_scheme (take_while is_scheme_char token)
    && starts_with nat_eq (skip_while is_scheme_char token) (codes "://")
    then authority (Some (lower (take_while is_scheme_char token))) (drop 3 (skip_while is_scheme_char token))
    else authority None token

unfoldable pub scheme_source : List ℕ → Option Source
scheme_source token =
    if ends_in (code ":") token && is_scheme (without_last token)
    then Some (Source.SchemeOnly (lower (without_last token)))
    else None

-- the keywords that act
abbrev pub keywords : List Keyword
keywords = every_keyword.ALL

unfoldable pub keyword_source : List ℕ → Option Source
keyword_source token =
    option_map (λ word. Source.Word word) (find (λ word. bytes_eq (lower token) (keyword_text word)) keywords)

-- the base64-value between a word and "'"
unfoldable pub quoted_value : List ℕ → List ℕ → Option (List ℕ)
quoted_value word token =
    if bytes_eq (lower (take (length word) token)) word && ends_in (code "'") (drop (length word) token)
    && is_base64_value (without_last (drop (length word) token))
    then Some (without_last (drop (length word) token))
    else None

unfoldable pub nonce_source : List ℕ → Option Source
nonce_source token = option_map (λ value. Source.Nonce value) (quoted_value (codes "'nonce-") token)

unfoldable pub hash_source : Algorithm → List ℕ → Option Source
hash_source algorithm token =
    option_map (λ value. Source.Digest (record { algorithm = algorithm; value = value }))
    (quoted_value (code "'" ∷ algorithm_text algorithm ++ codes "-") token)

-- the first of some answers that is one
abbrev pub first_of : {A : Type 0} → List (Option A) → Option A
first_of [] = None
first_of (Some a ∷ rest) = Some a
first_of (None ∷ rest) = first_of rest

-- the source that a token of some kind is
unfoldable pub kind_of : List ℕ → Option Source
kind_of token = first_of (scheme_source token ∷ host_source token ∷ keyword_source token ∷ nonce_source token
    ∷ hash_source Sha256 token ∷ hash_source Sha384 token ∷ hash_source Sha512 token ∷ [])

-- what a token stands for
unfoldable pub source_of : List ℕ → Source
source_of token =
    if bytes_eq token (codes "*") then Source.Star else unwrap_or (kind_of token) (Source.Other token)
