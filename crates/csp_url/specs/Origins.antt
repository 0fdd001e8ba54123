-- The origin that a text is (URL Standard, section 4.7).
use Rattle.std.specs.Prelude.{ℕ, ◌&&◌, Bool, true, false, List, Option, Some, None, is_none, codes, option_and_then, if◌then◌else◌}
use Rattle.std.specs.Str.{bytes_eq}
use Rattle.url.specs.Input.{is_empty}
use Rattle.url.specs.Parts.{Parts}
use Rattle.csp_url.specs.Types.{Scheme, Url, Origin}
use Rattle.csp_model.specs.declared.url.Scheme.TheVariants.{Http, Https}
use Rattle.csp_url.specs.Reading.{parts_of, url_from}

-- no user name, password, query or fragment, and the path "/"
abbrev pub is_bare : Parts → Bool
is_bare parts =
    is_empty parts.username && is_empty parts.password && bytes_eq parts.path (codes "/")
    && is_none parts.query && is_none parts.fragment

abbrev pub is_web : Scheme → Bool
is_web Http = true
is_web Https = true
is_web scheme = false

-- the origin of a URL of http or https
abbrev pub web_origin : Url → Option Origin
web_origin (Url.Plain scheme) = None
web_origin (Url.Hosted scheme host port path) =
    if is_web scheme then Some (Origin.Tuple scheme host port) else None

abbrev pub origin_from : Parts → Option Origin
origin_from parts = if is_bare parts then option_and_then web_origin (url_from parts) else None

-- the origin that a text is: "null", or a bare URL of http or https
abbrev pub origin_of : List ℕ → Option Origin
origin_of text =
    if bytes_eq text (codes "null") then Some Origin.Opaque else option_and_then origin_from (parts_of text)
