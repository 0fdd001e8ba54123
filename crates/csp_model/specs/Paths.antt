-- How hosts and the pieces of paths are written and read (URL Standard, section 3.5; RFC 3986, sections 2.1
-- and 5.2.4).
use Rattle.std.specs.Prelude.{ℕ, Bool, ◌||◌, List, [], ◌∷◌, ◌++◌, codes, map}
use Rattle.std.specs.List.{flat_map, list_any}
use Rattle.std.specs.Str.{bytes_eq}
use Rattle.percent_encoding.specs.Percent.{percent_encode, percent_decode}
use Rattle.csp_model.specs.Ascii.{code, split_at, without_last}
use Rattle.csp_model.specs.declared.path.TheConstants.{ESCAPED}
use Rattle.csp_model.specs.declared.url.Host.{Host}
use Rattle.csp_model.specs.declared.url.Host.TheVariants.{Domain, Address}

abbrev pub host_text : Host → List ℕ
host_text (Domain text) = text
host_text (Address text) = text

-- "/" and the piece for each piece, in which every byte but letters, digits, "-", ".", "_" and "~" is "%" and
-- two upper-case hexadecimal digits
abbrev pub path_text : List (List ℕ) → List ℕ
path_text pieces = flat_map (λ piece. code "/" ∷ percent_encode ESCAPED piece) pieces

-- the pieces of a path behind its first "/", percent-decoded
abbrev pub pieces_of : List ℕ → List (List ℕ)
pieces_of text = map percent_decode (split_at (code "/") text)

-- the pieces of a path that begins with "/", or has no piece
abbrev pub text_pieces : List ℕ → List (List ℕ)
text_pieces [] = []
text_pieces (slash ∷ text) = pieces_of text

-- the text of a path and one more "/": a path begins with the pieces of another where this text begins with
-- the other's
abbrev pub front_text : List (List ℕ) → List ℕ
front_text pieces = path_text pieces ++ code "/" ∷ []

-- the pieces of such a text
abbrev pub front_pieces : List ℕ → List (List ℕ)
front_pieces text = text_pieces (without_last text)

-- the piece is "." or ".."
abbrev pub is_dot_segment : List ℕ → Bool
is_dot_segment piece = bytes_eq piece (codes ".") || bytes_eq piece (codes "..")

abbrev pub has_dot_segment : List (List ℕ) → Bool
has_dot_segment pieces = list_any is_dot_segment pieces
