-- The one spelling of a source (Content Security Policy Level 3, section 2.3.1): letters in lower case where
-- case doesn't count, ports without leading zeros, pieces of paths percent-encoded (RFC 3986, section 2.1).
use Rattle.std.specs.Prelude.{◌≡◌, ℕ, List, [], ◌∷◌, ◌++◌, Option, Some, None, IsTrue, codes, decimal}
use Rattle.csp_model.specs.Ascii.{code, is_ascii_text}
use Rattle.csp_model.specs.Grammar.{keyword_text, algorithm_text}
use Rattle.csp_model.specs.Paths.{path_text}
use Rattle.csp_model.specs.Reading.{source_of}
use Rattle.csp_source.specs.Types.{HostPart, PortPart, PathPart, Source}

-- the scheme and "://", where there is one
abbrev pub scheme_spelling : Option (List ℕ) → List ℕ
scheme_spelling None = []
scheme_spelling (Some scheme) = scheme ++ codes "://"

abbrev pub host_spelling : HostPart → List ℕ
host_spelling HostPart.Any = codes "*"
host_spelling (HostPart.Under suffix) = codes "*." ++ suffix
host_spelling (HostPart.Exact text) = text

abbrev pub port_spelling : PortPart → List ℕ
port_spelling PortPart.Absent = []
port_spelling PortPart.Any = codes ":*"
port_spelling (PortPart.Number n) = codes ":" ++ decimal n
port_spelling PortPart.TooLarge = codes ":65536"

-- a path that ends in "/" has one more
abbrev pub path_spelling : PathPart → List ℕ
path_spelling PathPart.Absent = []
path_spelling (PathPart.Exact pieces) = path_text pieces
path_spelling (PathPart.Prefix pieces) = path_text pieces ++ codes "/"

-- what a source is written as
abbrev pub spelling : Source → List ℕ
spelling Source.Star = codes "*"
spelling (Source.SchemeOnly scheme) = scheme ++ codes ":"
spelling (Source.Hosted scheme host_part port_part path_part) =
    scheme_spelling scheme
    ++ (host_spelling host_part ++ (port_spelling port_part ++ path_spelling path_part))
spelling (Source.Word word) = keyword_text word
spelling (Source.Nonce value) = codes "'nonce-" ++ (value ++ codes "'")
spelling (Source.Digest hash) =
    (code "'" ∷ algorithm_text hash.algorithm ++ codes "-") ++ (hash.value ++ codes "'")
spelling (Source.Other token) = token

-- some ASCII token reads as the source
abbrev pub IsRead : Source → Type 0
IsRead s = (token : List ℕ) × IsTrue (is_ascii_text token) × (source_of token ≡ s)
