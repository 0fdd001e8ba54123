-- Which hosts, URLs and origins there are (URL Standard, sections 3.2 to 3.6 and 4.1), as far as a policy
-- looks at them.
use Rattle.std.specs.Prelude.{◌≡◌, ◌≢◌, ℕ, ◌<◌, ◌^◌, ◌==◌, ◌&&◌, ◌||◌, not, nat_lt, nat_le, Bool, List, [], ◌∷◌, length, drop, slice_index, Option, None, unwrap_or, All, IfSome, IsTrue, IsNone, ◌⊎◌, ⊤, codes}
use Rattle.std.specs.List.{list_all, list_any, last_or}
use Rattle.std.specs.Str.{bytes_eq, IsUtf8}
use Rattle.std.specs.Char.{is_ascii_uppercase, is_ascii_hexdigit, is_ascii_whitespace}
use Rattle.csp_model.specs.Ascii.{code, lower, is_nonempty, ends_in, without_last, without_final, split_at}
use Rattle.csp_model.specs.Grammar.{is_scheme, are_digits, decimal_value}
use Rattle.csp_model.specs.Schemes.{scheme_named, default_port}
use Rattle.csp_model.specs.declared.url.Scheme.{Scheme}
use Rattle.csp_model.specs.declared.url.Scheme.TheVariants.{Http, Https}
use Rattle.csp_model.specs.declared.url.Host.{Host}
use Rattle.csp_model.specs.declared.url.Host.TheVariants.{Domain, Address}
use Rattle.csp_model.specs.declared.url.Origin.{Origin}
use Rattle.csp_model.specs.declared.url.Url.{Url}
use Rattle.csp_model.specs.declared.source.Hash.{Hash}
use Rattle.csp_model.specs.declared.check.Digests.{Digests}
use Rattle.csp_model.specs.declared.check.Check.{Check}

-- a byte that a domain may hold: no control, space, upper-case letter or forbidden domain code point
unfoldable pub is_domain_byte : ℕ → Bool
is_domain_byte b =
    nat_le 33 b && nat_le b 126 && not (is_ascii_uppercase b)
    && not (list_any (λ c. c == b) (codes "#/:<>?@[\\]^|%"))

-- "0x" and hexadecimal digits, perhaps none
abbrev pub is_hex_number : List ℕ → Bool
is_hex_number label =
    (slice_index label 0 == code "0") && (slice_index label 1 == code "x")
    && list_all is_ascii_hexdigit (drop 2 label)

-- the last label, where one "." may stand behind it
abbrev pub last_label : List ℕ → List ℕ
last_label text = unwrap_or (last_or None (split_at (code ".") (without_final (code ".") text))) []

-- it is a number (URL Standard, "ends in a number")
unfoldable pub ends_in_number : List ℕ → Bool
ends_in_number text = are_digits (last_label text) || is_hex_number (last_label text)

unfoldable pub is_domain : List ℕ → Bool
is_domain text = is_nonempty text && list_all is_domain_byte text && not (ends_in_number text)

-- a decimal number from 0 to 255 without leading zeros
abbrev pub is_octet : List ℕ → Bool
is_octet text =
    are_digits text && nat_lt (decimal_value text) 256
    && (nat_lt (length text) 2 || not (slice_index text 0 == code "0"))

-- four numbers joined by "."
unfoldable pub is_four_numbers : List ℕ → Bool
is_four_numbers text =
    (length (split_at (code ".") text) == 4) && list_all is_octet (split_at (code ".") text)

-- an address in brackets, loosely: hexadecimal digits in lower case and ":"
abbrev pub is_group_char : ℕ → Bool
is_group_char c = (is_ascii_hexdigit c && not (is_ascii_uppercase c)) || c == code ":"

unfoldable pub is_bracketed : List ℕ → Bool
is_bracketed text =
    (slice_index text 0 == code "[") && ends_in (code "]") text
    && is_nonempty (without_last (drop 1 text)) && list_all is_group_char (without_last (drop 1 text))

unfoldable pub is_address : List ℕ → Bool
is_address text = is_four_numbers text || is_bracketed text

abbrev pub IsValidHost : Host → Type 0
IsValidHost (Domain text) = IsTrue (is_domain text)
IsValidHost (Address text) = IsTrue (is_address text)

-- absent, or a number of 16 bits that isn't the scheme's default
abbrev pub IsValidPort : Scheme → Option ℕ → Type 0
IsValidPort scheme port = IfSome port (λ n. (n < 2 ^ 16) × (n ≢ default_port scheme))

-- bytes
abbrev pub are_bytes : List ℕ → Bool
are_bytes text = list_all (λ b. nat_lt b 256) text

-- a path's piece: bytes, and neither "." nor ".."
unfoldable pub is_piece : List ℕ → Bool
is_piece piece = are_bytes piece && not (bytes_eq piece (codes ".")) && not (bytes_eq piece (codes ".."))

-- a lower-case scheme
unfoldable pub is_lower_scheme : List ℕ → Bool
is_lower_scheme text = is_scheme text && bytes_eq (lower text) text

abbrev pub IsValidUrl : Url → Type 0
IsValidUrl (Url.Plain scheme) = IsTrue (is_lower_scheme scheme) × IsNone (scheme_named scheme)
IsValidUrl (Url.Hosted scheme host port path) =
    IsValidHost host × IsValidPort scheme port × (path ≢ []) × IsTrue (list_all is_piece path)

-- an origin that a policy may have: opaque, or of http or https
abbrev pub IsValidOrigin : Origin → Type 0
IsValidOrigin Origin.Opaque = ⊤
IsValidOrigin (Origin.Tuple scheme host port) =
    ((scheme ≡ Http) ⊎ (scheme ≡ Https)) × IsValidHost host × IsValidPort scheme port

-- a value as integrity metadata can hold it: a text without ASCII whitespace and "?"
abbrev pub IsIntegrityValue : List ℕ → Type 0
IsIntegrityValue value =
    IsUtf8 value × IsTrue (list_all (λ b. not (is_ascii_whitespace b) && not (b == code "?")) value)

-- so many bytes
abbrev pub IsOfSize : ℕ → List ℕ → Type 0
IsOfSize size text = (length text ≡ size) × IsTrue (are_bytes text)

-- 32, 48 and 64 bytes
pub record IsValidDigests (digests : Digests) : Type 0 where
  pub sha256 : IsOfSize 32 digests.sha256
  pub sha384 : IsOfSize 48 digests.sha384
  pub sha512 : IsOfSize 64 digests.sha512

-- an ancestor is known by its origin: its path is one empty piece
abbrev pub IsOriginUrl : Url → Type 0
IsOriginUrl (Url.Plain scheme) = ⊤
IsOriginUrl (Url.Hosted scheme host port path) = path ≡ [] ∷ []

-- a check that a page can make
abbrev pub IsValidCheck : Check → Type 0
IsValidCheck (Check.Fetch group there redirects nonce integrity parser_inserted) =
    IsValidUrl there × (redirects < 2 ^ 32) × IsUtf8 nonce
    × All (λ (h : Hash). IsIntegrityValue h.value) integrity
IsValidCheck (Check.Inline kind nonce digests) = IsUtf8 nonce × IsValidDigests digests
IsValidCheck Check.Eval = ⊤
IsValidCheck Check.Wasm = ⊤
IsValidCheck (Check.Base there) = IsValidUrl there
IsValidCheck (Check.Form there redirects) = IsValidUrl there × (redirects < 2 ^ 32)
IsValidCheck (Check.Ancestor there) = IsValidUrl there × IsOriginUrl there
IsValidCheck Check.OpaqueAncestor = ⊤
IsValidCheck (Check.Capability capability) = ⊤
IsValidCheck Check.WorkerStart = ⊤
