-- How domains end, and how paths begin, as tests.
use Rattle.std.specs.Prelude.{ℕ, ◌&&◌, Bool, false, List, ◌∷◌, length, nat_lt, nat_eq}
use Rattle.std.specs.List.{starts_with, ends_with}
use Rattle.std.specs.Str.{bytes_eq}
use Rattle.csp_model.specs.Ascii.{code}
use Rattle.csp_model.specs.declared.url.Host.{Host}
use Rattle.csp_model.specs.declared.url.Host.TheVariants.{Domain, Address}

-- the domain ends in "." and the suffix; none is under itself
abbrev pub is_subdomain : List ℕ → List ℕ → Bool
is_subdomain domain suffix = ends_with nat_eq domain (code "." ∷ suffix)

-- the host is a domain that is under the suffix
abbrev pub is_host_under : Host → List ℕ → Bool
is_host_under (Domain text) suffix = is_subdomain text suffix
is_host_under (Address text) suffix = false

-- the path begins with these pieces, or has them alone
abbrev pub begins_with : List (List ℕ) → List (List ℕ) → Bool
begins_with path front = starts_with bytes_eq path front

-- and has more of them
abbrev pub goes_beyond : List (List ℕ) → List (List ℕ) → Bool
goes_beyond path front = nat_lt (length front) (length path) && begins_with path front
