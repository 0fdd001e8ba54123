-- The URL that a text is (URL Standard, sections 3.2 to 3.6 and 4.4), as far as a policy looks at it.
use Rattle.std.specs.Prelude.{ℕ, ◌==◌, ◌&&◌, not, nat_lt, Bool, true, List, [], ◌∷◌, Option, Some, None, option_and_then, option_map, if◌then◌else◌}
use Rattle.std.specs.List.{list_all}
use Rattle.std.specs.Result.{result_ok}
use Rattle.url.specs.Parser.{parse_url}
use Rattle.url.specs.Parts.{Parts, nonempty_host}
use Rattle.url.specs.Host.{host_text}
use Rattle.url.specs.declared.host.Host as web
use Rattle.url.specs.declared.host.Host.TheVariants as web_host
use Rattle.csp_model.specs.Ascii.{code}
use Rattle.csp_model.specs.Grammar.{pieces_of}
use Rattle.csp_model.specs.Schemes.{scheme_named, default_port}
use Rattle.csp_model.specs.Validity.{is_domain, is_address, is_piece, is_lower_scheme}
use Rattle.csp_url.specs.Types.{Scheme, Host, Url}
use Rattle.csp_model.specs.declared.url.Host.TheVariants.{Domain, Address}

-- the domain, where it is valid
abbrev pub domain_of : List ℕ → Option Host
domain_of text = if is_domain text then Some (Domain text) else None

-- the address, where it is valid
abbrev pub address_of : List ℕ → Option Host
address_of text = if is_address text then Some (Address text) else None

-- the domain or the address that a text is
abbrev pub host_of : List ℕ → Option Host
host_of text = if is_domain text then Some (Domain text) else address_of text

-- the host that was found, where it is valid
abbrev pub found_host : web.Host (List ℕ) → Option Host
found_host (web_host.Domain text) = domain_of text
found_host (web_host.Ipv4 address) = address_of (host_text (web_host.Ipv4 address))
found_host (web_host.Ipv6 address) = address_of (host_text (web_host.Ipv6 address))

-- no port, or one of 16 bits that isn't the scheme's default
abbrev pub is_port : Scheme → Option ℕ → Bool
is_port scheme None = true
is_port scheme (Some n) = nat_lt n 65536 && not (n == default_port scheme)

-- the port, where it is valid
abbrev pub found_port : Scheme → Option ℕ → Option (Option ℕ)
found_port scheme port = if is_port scheme port then Some port else None

-- the pieces, where each is valid
abbrev pub whole_pieces : List (List ℕ) → Option (List (List ℕ))
whole_pieces pieces = if list_all is_piece pieces then Some pieces else None

-- the decoded pieces behind the slashes of a path, where they are valid
unfoldable pub found_path : List ℕ → Option (List (List ℕ))
found_path [] = None
found_path (b ∷ text) = if b == code "/" then whole_pieces (pieces_of text) else None

-- the URL of a scheme that has hosts
abbrev pub hosted_from : Scheme → Parts → Option Url
hosted_from scheme parts =
    option_and_then (λ host. option_and_then (λ port. option_map (λ path. Url.Hosted scheme host port path)
    (found_path parts.path)) (found_port scheme parts.port))
    (option_and_then found_host (nonempty_host parts))

-- the URL of any other scheme
abbrev pub plain_from : List ℕ → Option Url
plain_from scheme = if is_lower_scheme scheme then Some (Url.Plain scheme) else None

abbrev pub url_by : Option Scheme → Parts → Option Url
url_by (Some scheme) parts = hosted_from scheme parts
url_by None parts = plain_from parts.scheme

-- the URL of the parts that parsing found, where they are valid
abbrev pub url_from : Parts → Option Url
url_from parts = url_by (scheme_named parts.scheme) parts

-- the parts that parsing finds in a text, without a base
abbrev pub parts_of : List ℕ → Option Parts
parts_of text = result_ok (parse_url None text)

-- the URL that a text is
abbrev pub url_of : List ℕ → Option Url
url_of text = option_and_then url_from (parts_of text)
