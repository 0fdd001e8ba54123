-- The parts of a check, as far as a policy looks at them: of a URL with a host its host, its port and its
-- path, of any other URL its scheme, and a nonce, integrity metadata and digests.
use Rattle.std.specs.Prelude.{ℕ, Bool, true, false, List, Option, Some, None, is_some}
use Rattle.csp_model.specs.Types.{Check, Digests, CheckPart, Hash, Url}
use Rattle.csp_model.specs.declared.check.CheckPart.TheVariants.{Host, Port, Path, PlainScheme, Nonce, Integrity, Digest}

-- the URL that a check is about
abbrev pub checked_url : Check → Option Url
checked_url (Check.Fetch group there redirects nonce integrity parser_inserted) = Some there
checked_url (Check.Base there) = Some there
checked_url (Check.Form there redirects) = Some there
checked_url (Check.Ancestor there) = Some there
checked_url asked = None

-- the nonce that it carries
abbrev pub checked_nonce : Check → Option (List ℕ)
checked_nonce (Check.Fetch group there redirects nonce integrity parser_inserted) = Some nonce
checked_nonce (Check.Inline kind nonce digests) = Some nonce
checked_nonce asked = None

-- its integrity metadata
abbrev pub checked_integrity : Check → Option (List Hash)
checked_integrity (Check.Fetch group there redirects nonce integrity parser_inserted) = Some integrity
checked_integrity asked = None

-- the digests of its text
abbrev pub checked_digests : Check → Option Digests
checked_digests (Check.Inline kind nonce digests) = Some digests
checked_digests asked = None

abbrev pub is_hosted : Option Url → Bool
is_hosted (Some (Url.Hosted scheme host port path)) = true
is_hosted there = false

abbrev pub is_plain : Option Url → Bool
is_plain (Some (Url.Plain scheme)) = true
is_plain there = false

-- the check has the part
abbrev pub has_part : Check → CheckPart → Bool
has_part asked Host = is_hosted (checked_url asked)
has_part asked Port = is_hosted (checked_url asked)
has_part asked Path = is_hosted (checked_url asked)
has_part asked PlainScheme = is_plain (checked_url asked)
has_part asked Nonce = is_some (checked_nonce asked)
has_part asked Integrity = is_some (checked_integrity asked)
has_part asked (Digest algorithm) = is_some (checked_digests asked)
