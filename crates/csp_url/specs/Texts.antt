-- The texts of URLs (URL Standard, section 4.5), and what a report shows of one (Content Security Policy
-- Level 3, section 5.4).
use Rattle.std.specs.Prelude.{◌≡◌, ⊤, ℕ, ◌||◌, Bool, List, [], ◌++◌, Option, Some, None, codes, decimal, option_and_then, option_map, if◌then◌else◌}
use Rattle.std.specs.Str.{bytes_eq}
use Rattle.url.specs.Parts.{Parts, serialize}
use Rattle.csp_model.specs.Paths.{host_text, path_text}
use Rattle.csp_model.specs.Schemes.{scheme_text}
use Rattle.csp_url.specs.Types.{Url, ShownUrl}
use Rattle.csp_url.specs.Reading.{found_path, parts_of, url_from}

abbrev pub port_text : Option ℕ → List ℕ
port_text None = []
port_text (Some n) = codes ":" ++ decimal n

abbrev pub url_text : Url → List ℕ
url_text (Url.Plain scheme) = scheme ++ codes ":"
url_text (Url.Hosted scheme host port path) =
    scheme_text scheme ++ (codes "://" ++ (host_text host ++ (port_text port ++ path_text path)))

-- what a URL prints without user name, password and fragment
abbrev pub bare_text : Parts → List ℕ
bare_text parts = serialize (record parts { username = []; password = []; fragment = None })

-- the scheme is http or https
abbrev pub is_http : List ℕ → Bool
is_http scheme = bytes_eq scheme (codes "http") || bytes_eq scheme (codes "https")

abbrev pub shown_text : Parts → List ℕ
shown_text parts = if is_http parts.scheme then bare_text parts else parts.scheme

abbrev pub stripped_from : Parts → Option (List ℕ)
stripped_from parts = option_map (λ _. shown_text parts) (url_from parts)

-- what a report shows of the URL that a text is, where it is one
abbrev pub stripped_of : List ℕ → Option (List ℕ)
stripped_of text = option_and_then stripped_from (parts_of text)

-- a URL, and what a report shows of it
abbrev pub shown_url : List ℕ → Url → ShownUrl
shown_url shown there = record { url = there; shown = shown }

-- the URL of the parts that parsing found, and what a report shows of it
abbrev pub shown_url_from : Parts → Option ShownUrl
shown_url_from parts = option_map (shown_url (shown_text parts)) (url_from parts)

-- the URL that a text is, and what a report shows of it
abbrev pub shown_url_of : List ℕ → Option ShownUrl
shown_url_of text = option_and_then shown_url_from (parts_of text)

-- the text of a path reads as its pieces
abbrev pub ReadsBack : Url → Type 0
ReadsBack (Url.Plain scheme) = ⊤
ReadsBack (Url.Hosted scheme host port path) = found_path (path_text path) ≡ Some path
