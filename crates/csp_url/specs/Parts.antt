-- The URL of parts that are given one by one (URL Standard, section 4.1).
use Rattle.std.specs.Prelude.{ℕ, ◌==◌, nat_lt, List, Option, Some, None, is_some, codes, Result, Ok, Err, if◌then◌else◌}
use Rattle.std.specs.Str.{bytes_eq}
use Rattle.csp_model.specs.Schemes.{scheme_named, default_port}
use Rattle.csp_model.specs.Validity.{is_lower_scheme}
use Rattle.csp_url.specs.Types.{Scheme, Host, Url, Part, PartsError}
use Rattle.csp_url.specs.Reading.{host_of, found_path}
use Rattle.csp_url.specs.declared.error.PartsError.TheVariants.{Bad}

-- a host has to be given
abbrev pub given_host : Option (List ℕ) → Option Host
given_host None = None
given_host (Some text) = host_of text

-- the port, or none where it is the scheme's default
abbrev pub kept_port : Scheme → ℕ → Option ℕ
kept_port scheme n = if n == default_port scheme then None else Some n

-- a port that is given has 16 bits
abbrev pub given_port : Scheme → Option ℕ → Option (Option ℕ)
given_port scheme None = Some None
given_port scheme (Some n) = if nat_lt n 65536 then Some (kept_port scheme n) else None

-- the next step, or the part that is bad
abbrev pub or_bad : {T : Type 0} → Option T → Part → (T → Result Url PartsError) → Result Url PartsError
or_bad (Some value) bad next = next value
or_bad None bad next = Err (Bad bad)

-- a scheme that has hosts
abbrev pub hosted_of_parts : Scheme → Option (List ℕ) → Option ℕ → List ℕ → Result Url PartsError
hosted_of_parts scheme host port path =
    or_bad (given_host host) Part.Host (λ host. or_bad (given_port scheme port) Part.Port (λ port.
    or_bad (found_path path) Part.Path (λ path. Ok (Url.Hosted scheme host port path))))

-- any other scheme: no host, no port, and the path "/"
abbrev pub plain_of_parts : List ℕ → Option (List ℕ) → Option ℕ → List ℕ → Result Url PartsError
plain_of_parts scheme host port path =
    if is_some host then Err (Bad Part.Host)
    else if is_some port then Err (Bad Part.Port)
    else if bytes_eq path (codes "/") then Ok (Url.Plain scheme)
    else Err (Bad Part.Path)

abbrev pub url_of_parts_by : Option Scheme → List ℕ → Option (List ℕ) → Option ℕ → List ℕ
    → Result Url PartsError
url_of_parts_by (Some known) scheme host port path = hosted_of_parts known host port path
url_of_parts_by None scheme host port path = plain_of_parts scheme host port path

-- the valid URL of the parts, or the first part that isn't valid
abbrev pub url_of_parts : List ℕ → Option (List ℕ) → Option ℕ → List ℕ → Result Url PartsError
url_of_parts scheme host port path =
    if is_lower_scheme scheme then url_of_parts_by (scheme_named scheme) scheme host port path
    else Err (Bad Part.Scheme)
