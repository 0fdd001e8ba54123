-- The policies that a header block stands for (Content Security Policy Level 3, sections 2.2, 3.1 to 3.3 and
-- 4; RFC 9110, sections 5.1, 5.5 and 5.6.2).
use Rattle.std.specs.Prelude.{◌≡◌, ◌≢◌, ℕ, ◌≤◌, Bool, true, false, not, ◌==◌, if◌then◌else◌, List, [], ◌∷◌, map, filter, fold, position, take, drop, codes, length, max, nat_lt, nat_eq, ◌+◌, ◌&&◌, ◌||◌, Option, Some, None, All, AllPairs}
use Rattle.std.specs.List.{filter_map, list_any, list_all, flat_map, sum_by, position_from, position_or_len, starts_with, join_by, join_with_byte}
use Rattle.std.specs.Str.Lines.{strip_carriage_return}
use Rattle.std.specs.Char.{is_ascii_alphanumeric, is_ascii_control}
use Rattle.std.specs.Str.{bytes_eq}
use Rattle.csp_model.specs.Ascii.{code, lower, is_ascii_text, words, split_at}
use Rattle.csp_model.specs.Reading.{source_of}
use Rattle.csp_model.specs.Validity.{IsValidOrigin}
use Rattle.csp_model.specs.Types.{Directive, Disposition, Policy, PolicyList, Origin}
use Rattle.csp_model.specs.declared.policy.Disposition.TheVariants.{Enforce, Report}

-- Serialized policies (section 2.2.1)

-- a directive of these words, of which the first is its name
abbrev pub directive_of_words : List (List ℕ) → Option Directive
directive_of_words [] = None
directive_of_words (name ∷ tokens) =
    Some (record { name = lower name; tokens = tokens; sources = map source_of tokens })

-- the directive of a piece between semicolons; none where the piece has no word, or a byte outside ASCII
unfoldable pub directive_of : List ℕ → Option Directive
directive_of piece = if is_ascii_text piece then directive_of_words (words piece) else None

abbrev pub same_name : Directive → Directive → Bool
same_name a b = bytes_eq a.name b.name

-- the first directive of each name
abbrev pub firsts : List Directive → List Directive
firsts [] = []
firsts (d ∷ ds) = d ∷ filter (λ e. not (same_name e d)) (firsts ds)

-- the directives of a serialized policy
abbrev pub directives_of : List ℕ → List Directive
directives_of value = firsts (filter_map directive_of (split_at (code ";") value))

-- Header blocks

-- the lines between line feeds, each without one carriage return at its end
abbrev pub lines_of : List ℕ → List (List ℕ)
lines_of bytes = map strip_carriage_return (split_at (code "\n") bytes)

-- token of RFC 9110, section 5.6.2: a letter, a digit or one of these
unfoldable pub is_token_char : ℕ → Bool
is_token_char c = is_ascii_alphanumeric c || list_any (λ d. d == c) (codes "!#$%&'*+-.^_`|~")

unfoldable pub is_field_name : List ℕ → Bool
is_field_name name = nat_lt 0 (length name) && nat_lt (length name) 65536 && list_all is_token_char name

-- tabs, and anything but controls
unfoldable pub is_field_value : List ℕ → Bool
is_field_value value = list_all (λ c. c == code "\t" || not (is_ascii_control c)) value

-- what a line says
pub data Line : Type 0 where
  Skipped : Line
  Bad : Line
  Header : List ℕ → List ℕ → Line

-- the name before a colon at this place, and the value after it
abbrev pub header_at : List ℕ → Option ℕ → Line
header_at text None = Bad
header_at text (Some place) =
    if is_field_name (take place text) && is_field_value (drop (place + 1) text)
    then Header (take place text) (drop (place + 1) text)
    else Bad

unfoldable pub header_of : List ℕ → Line
header_of text = header_at text (position (λ c. c == code ":") text)

unfoldable pub line_of : List ℕ → Line
line_of [] = Skipped
line_of (c ∷ cs) = header_of (c ∷ cs)

-- the block with a status line at its front emptied, so that its lines keep their numbers
abbrev pub without_status : List ℕ → List ℕ
without_status bytes =
    if starts_with nat_eq bytes (codes "HTTP/") then drop (position_or_len (λ c. c == code "\n") bytes) bytes
    else bytes

abbrev pub block_lines : List ℕ → List Line
block_lines bytes = map line_of (lines_of (without_status bytes))

abbrev pub is_bad : Line → Bool
is_bad Bad = true
is_bad line = false

-- the number of the first bad line, counted from 1
abbrev pub first_bad : List ℕ → Option ℕ
first_bad bytes = position_from is_bad 1 (block_lines bytes)

-- Policy lists (sections 3.1 to 3.3 and 4)

-- a policy, where it has a directive
abbrev pub policy_with : Origin → Disposition → Bool → List Directive → List Policy
policy_with origin disposition meta [] = []
policy_with origin disposition meta (d ∷ ds) =
    record { disposition = disposition; meta = meta; origin = origin; directives = d ∷ ds } ∷ []

-- the policies of a header's value, between commas
abbrev pub policies_in : Origin → Disposition → List ℕ → List Policy
policies_in origin disposition value =
    flat_map (λ piece. policy_with origin disposition false (directives_of piece)) (split_at (code ",") value)

-- a meta element may carry the directive
abbrev pub is_for_meta : Directive → Bool
is_for_meta d =
    not (list_any (λ name. bytes_eq d.name name)
    (codes "report-uri" ∷ codes "frame-ancestors" ∷ codes "sandbox" ∷ []))

abbrev pub policies_of : Origin → Line → List Policy
policies_of origin Skipped = []
policies_of origin Bad = []
policies_of origin (Header name value) =
    if bytes_eq (lower name) (codes "content-security-policy") then policies_in origin Enforce value
    else if bytes_eq (lower name) (codes "content-security-policy-report-only")
    then policies_in origin Report value
    else if bytes_eq (lower name) (codes "meta-content-security-policy")
    then policy_with origin Enforce true (filter is_for_meta (directives_of value))
    else []

-- the policies of a header block, in order
abbrev pub policies : List ℕ → Origin → List Policy
policies bytes origin = flat_map (policies_of origin) (block_lines bytes)

-- Limits

-- the value tokens of all directives
abbrev pub token_count : List Policy → ℕ
token_count ps = sum_by (λ (p : Policy). sum_by (λ (d : Directive). length d.tokens) p.directives) ps

-- the length of the longest name or token
abbrev pub longest_text : List Policy → ℕ
longest_text ps =
    fold (λ n text. max n (length text)) 0
    (flat_map (λ (p : Policy). flat_map (λ (d : Directive). d.name ∷ d.tokens) p.directives) ps)

abbrev pub policy_limit : ℕ
policy_limit = 64

abbrev pub token_limit : ℕ
token_limit = 1024

abbrev pub text_limit : ℕ
text_limit = 4096

-- a policy as reading makes it
pub record IsReadablePolicy (p : Policy) : Type 0 where
  pub some : p.directives ≢ []
  pub distinct : AllPairs (λ (d e : Directive). d.name ≢ e.name) p.directives
  pub read : All (λ (d : Directive). d.sources ≡ map source_of d.tokens) p.directives
  pub origin : IsValidOrigin p.origin

-- a list as reading makes it
pub record IsReadable (list : PolicyList) : Type 0 where
  pub policies : length list.policies ≤ policy_limit
  pub tokens : token_count list.policies ≤ token_limit
  pub texts : longest_text list.policies ≤ text_limit
  pub each : All IsReadablePolicy list.policies

-- Printing

-- a directive's name and tokens, joined by spaces
abbrev pub directive_text : Directive → List ℕ
directive_text d = join_with_byte (code " ") (d.name ∷ d.tokens)

-- the directives, joined by "; "
abbrev pub policy_text : Policy → List ℕ
policy_text p = join_by directive_text (codes "; ") p.directives
