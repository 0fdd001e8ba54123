-- The schemes of URLs that have a host (URL Standard, section 4.2).
use Rattle.std.specs.Prelude.{ℕ, List, Option, Some, None, codes, if◌then◌else◌}
use Rattle.std.specs.Str.{bytes_eq}
use Rattle.csp_model.specs.declared.url.Scheme.{Scheme}
use Rattle.csp_model.specs.declared.url.Scheme.TheVariants.{Http, Https, Ws, Wss, Ftp}

-- a scheme as it is written
abbrev pub scheme_text : Scheme → List ℕ
scheme_text Http = codes "http"
scheme_text Https = codes "https"
scheme_text Ws = codes "ws"
scheme_text Wss = codes "wss"
scheme_text Ftp = codes "ftp"

-- the scheme that is so written
abbrev pub scheme_named : List ℕ → Option Scheme
scheme_named name =
    if bytes_eq name (codes "http") then Some Http
    else if bytes_eq name (codes "https") then Some Https
    else if bytes_eq name (codes "ws") then Some Ws
    else if bytes_eq name (codes "wss") then Some Wss
    else if bytes_eq name (codes "ftp") then Some Ftp
    else None

-- the port that a URL of the scheme means where it names none
abbrev pub default_port : Scheme → ℕ
default_port Http = 80
default_port Https = 443
default_port Ws = 80
default_port Wss = 443
default_port Ftp = 21
