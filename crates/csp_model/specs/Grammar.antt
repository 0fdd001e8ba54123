-- The grammar of source expressions (Content Security Policy Level 3, section 2.3.1; RFC 3986, sections 2 and
-- 3): which texts are a source of which kind, each text built from its parts.
use Rattle.std.specs.Prelude.{◌≡◌, ◌≢◌, ℕ, ◌+◌, ◌-◌, ◌*◌, Bool, true, false, not, ◌&&◌, ◌||◌, nat_lt, nat_eq, ◌==◌, if◌then◌else◌, List, [], ◌∷◌, ◌++◌, drop, Option, Some, None, IsTrue, codes}
use Rattle.std.specs.List.{list_all, list_any, fold, starts_with}
use Rattle.std.specs.Str.{bytes_eq}
use Rattle.std.specs.Char.{is_ascii_alphabetic, is_ascii_alphanumeric, is_ascii_digit, is_ascii_hexdigit}
use Rattle.csp_model.specs.Ascii.{code, lower, is_nonempty, without_last, without_final, ends_in, split_at}
pub use Rattle.csp_model.specs.Paths.{pieces_of}
use Rattle.csp_model.specs.declared.source.Algorithm.{Algorithm}
use Rattle.csp_model.specs.declared.source.Algorithm.TheVariants.{Sha256, Sha384, Sha512}
use Rattle.csp_model.specs.declared.source.HostPart.{HostPart}
use Rattle.csp_model.specs.declared.source.PortPart.{PortPart}
use Rattle.csp_model.specs.declared.source.PathPart.{PathPart}
use Rattle.csp_model.specs.declared.source.Keyword.{Keyword}
use Rattle.csp_model.specs.declared.source.Source.{Source}

-- scheme = ALPHA *( ALPHA / DIGIT / "+" / "-" / "." )
unfoldable pub is_scheme_char : ℕ → Bool
is_scheme_char c = is_ascii_alphanumeric c || c == code "+" || c == code "-" || c == code "."

abbrev pub is_scheme : List ℕ → Bool
is_scheme [] = false
is_scheme (c ∷ cs) = is_ascii_alphabetic c && list_all is_scheme_char cs

-- host-char = ALPHA / DIGIT / "-"; a label is one or more of them
unfoldable pub is_label_char : ℕ → Bool
is_label_char c = is_ascii_alphanumeric c || c == code "-"

abbrev pub is_label : List ℕ → Bool
is_label text = is_nonempty text && list_all is_label_char text

-- labels joined by ".", with or without one more "." at the end
unfoldable pub is_name : List ℕ → Bool
is_name text = list_all is_label (split_at (code ".") (without_final (code ".") text))

-- host-part = "*" / [ "*." ] name
unfoldable pub host_part_of : List ℕ → Option HostPart
host_part_of text =
    if bytes_eq text (codes "*") then Some HostPart.Any
    else if starts_with nat_eq text (codes "*.") && is_name (drop 2 text)
    then Some (HostPart.Under (lower (drop 2 text)))
    else if is_name text then Some (HostPart.Exact (lower text))
    else None

-- the number that decimal digits spell
abbrev pub decimal_value : List ℕ → ℕ
decimal_value digits = fold (λ n d. 10 * n + (d - 48)) 0 digits

abbrev pub are_digits : List ℕ → Bool
are_digits text = is_nonempty text && list_all is_ascii_digit text

abbrev pub port_numbered : ℕ → PortPart
port_numbered n = if nat_lt n 65536 then PortPart.Number n else PortPart.TooLarge

-- nothing, or ":" port-part, where port-part = 1*DIGIT / "*"
unfoldable pub port_part_of : List ℕ → Option PortPart
port_part_of [] = Some PortPart.Absent
port_part_of (c ∷ text) =
    if not (c == code ":") then None
    else if bytes_eq text (codes "*") then Some PortPart.Any
    else if are_digits text then Some (port_numbered (decimal_value text))
    else None

-- pchar without ";" and ",", its "%" apart
unfoldable pub is_path_char : ℕ → Bool
is_path_char c = is_ascii_alphanumeric c || list_any (λ d. d == c) (codes "-._~!$&'()*+=:@")

-- the text begins with HEXDIG HEXDIG
abbrev pub begins_hex_pair : List ℕ → Bool
begins_hex_pair (a ∷ b ∷ rest) = is_ascii_hexdigit a && is_ascii_hexdigit b
begins_hex_pair text = false

-- segment = *pchar: path characters, and "%" before two hexadecimal digits
abbrev pub is_segment : List ℕ → Bool
is_segment [] = true
is_segment (c ∷ cs) = (if c == code "%" then begins_hex_pair cs else is_path_char c) && is_segment cs

-- segments after "/" that make a path-absolute: the first is empty only where it stands alone
abbrev pub are_segments : List (List ℕ) → Bool
are_segments [] = false
are_segments (s ∷ []) = is_segment s
are_segments (s ∷ t ∷ rest) = is_nonempty s && list_all is_segment (s ∷ t ∷ rest)

-- nothing, or path-part = path-absolute without ";" and ",": "/" [ segment-nz *( "/" segment ) ]
unfoldable pub path_part_of : List ℕ → Option PathPart
path_part_of [] = Some PathPart.Absent
path_part_of (c ∷ text) =
    if (c == code "/") && are_segments (split_at (code "/") text)
    then Some (if ends_in (code "/") (c ∷ text) then PathPart.Prefix (without_last (pieces_of text))
    else PathPart.Exact (pieces_of text))
    else None

-- nothing, or a scheme and "://"
abbrev pub IsSchemePart : List ℕ → Option (List ℕ) → Type 0
IsSchemePart text None = text ≡ []
IsSchemePart text (Some scheme) = (letters : List ℕ) × (text ≡ letters ++ codes "://")
    × IsTrue (is_scheme letters) × (scheme ≡ lower letters)

-- host-source = [ scheme-part "://" ] host-part [ ":" port-part ] [ path-part ]
abbrev pub IsHostSource : List ℕ → Option (List ℕ) → HostPart → PortPart → PathPart → Type 0
IsHostSource token scheme_part host_part port_part path_part =
    (a b c d : List ℕ) × (token ≡ a ++ (b ++ (c ++ d)))
    × IsSchemePart a scheme_part × (host_part_of b ≡ Some host_part) × (port_part_of c ≡ Some port_part)
    × (path_part_of d ≡ Some path_part)

-- scheme-source = scheme-part ":"
abbrev pub IsSchemeSource : List ℕ → List ℕ → Type 0
IsSchemeSource token scheme = (letters : List ℕ) × (token ≡ letters ++ codes ":")
    × IsTrue (is_scheme letters) × (scheme ≡ lower letters)

-- keyword-source; its letters may be of either case
abbrev pub keyword_text : Keyword → List ℕ
keyword_text Keyword.SelfOrigin = codes "'self'"
keyword_text Keyword.UnsafeInline = codes "'unsafe-inline'"
keyword_text Keyword.UnsafeEval = codes "'unsafe-eval'"
keyword_text Keyword.WasmUnsafeEval = codes "'wasm-unsafe-eval'"
keyword_text Keyword.StrictDynamic = codes "'strict-dynamic'"
keyword_text Keyword.UnsafeHashes = codes "'unsafe-hashes'"
keyword_text Keyword.ReportSample = codes "'report-sample'"

-- base64-value = 1*( ALPHA / DIGIT / "+" / "/" / "-" / "_" )*2( "=" )
unfoldable pub is_base64_char : ℕ → Bool
is_base64_char c = is_ascii_alphanumeric c || list_any (λ d. d == c) (codes "+/-_")

abbrev pub without_padding : List ℕ → List ℕ
without_padding text = without_final (code "=") (without_final (code "=") text)

unfoldable pub is_base64_value : List ℕ → Bool
is_base64_value text = is_nonempty (without_padding text) && list_all is_base64_char (without_padding text)

-- a word, whose letters may be of either case, a base64-value and "'"
abbrev pub IsQuoted : List ℕ → List ℕ → List ℕ → Type 0
IsQuoted word token value = (letters : List ℕ) × (token ≡ letters ++ (value ++ codes "'"))
    × (lower letters ≡ word) × IsTrue (is_base64_value value)

-- an algorithm as it is written
abbrev pub algorithm_text : Algorithm → List ℕ
algorithm_text Sha256 = codes "sha256"
algorithm_text Sha384 = codes "sha384"
algorithm_text Sha512 = codes "sha512"

-- the algorithm that is so written
abbrev pub algorithm_named : List ℕ → Option Algorithm
algorithm_named name =
    if bytes_eq name (codes "sha256") then Some Sha256
    else if bytes_eq name (codes "sha384") then Some Sha384
    else if bytes_eq name (codes "sha512") then Some Sha512
    else None

-- the token is built as a source of one of the kinds, and this is its value
abbrev pub IsKind : List ℕ → Source → Type 0
IsKind token Source.Star = token ≡ codes "*"
IsKind token (Source.SchemeOnly scheme) = IsSchemeSource token scheme
IsKind token (Source.Hosted scheme_part host_part port_part path_part) =
    (token ≢ codes "*") × IsHostSource token scheme_part host_part port_part path_part
IsKind token (Source.Word word) = lower token ≡ keyword_text word
-- nonce-source = "'nonce-" base64-value "'"
IsKind token (Source.Nonce value) = IsQuoted (codes "'nonce-") token value
-- hash-source = "'" hash-algorithm "-" base64-value "'"
IsKind token (Source.Digest hash) =
    IsQuoted (code "'" ∷ algorithm_text hash.algorithm ++ codes "-") token hash.value
IsKind token (Source.Other text) = ⊥

-- what a token is: of a kind, or else nothing that matches
abbrev pub IsSource : List ℕ → Source → Type 0
IsSource token (Source.Other text) = (text ≡ token) × ((kind : Source) → ¬ IsKind token kind)
IsSource token kind = IsKind token kind
