-- What atoms say: hosts, ports, paths, schemes, nonces and digests, and of some of these a text or a number.
use Rattle.std.specs.Prelude.{ℕ, ◌-◌, Bool, true, false, if◌then◌else◌, List, length, slice_get, take, nat_lt, Option, Some, None}
use Rattle.std.specs.Int.{from_be_bytes, w64}
use Rattle.std.specs.Option.{option_map}
use Rattle.percent_encoding.specs.Percent.{percent_encode}
use Rattle.csp_model.specs.Paths.{host_text}
use Rattle.csp_model.specs.declared.check.CheckPart.{CheckPart}
use Rattle.csp_model.specs.declared.check.CheckPart.TheVariants as part
use Rattle.csp_model.specs.declared.check.Digest.TheVariants as one
use Rattle.csp_model.specs.declared.path.TheConstants.{ESCAPED}
use Rattle.csp_model.specs.declared.source.Algorithm.{Algorithm}
use Rattle.csp_model.specs.declared.source.Algorithm.TheVariants.{Sha256, Sha384, Sha512}
use Rattle.csp_model.specs.declared.url.Host.{Host}
use Rattle.csp_facts.specs.declared.atom.Atom.{Atom}
use Rattle.csp_facts.specs.declared.atom.Atom.TheVariants.{HostIs, HostUnder, HostDomain, PortIs, PathIs, PathUnder, SchemeIs, NonceIs, DigestIs}

abbrev pub port_of : Atom → Option ℕ
port_of (PortIs n) = Some n
port_of other = None

abbrev pub path_of : Atom → Option (List (List ℕ))
path_of (PathIs pieces) = Some pieces
path_of other = None

abbrev pub last_piece_of : Atom → Option (List ℕ)
last_piece_of (PathIs pieces) = slice_get pieces (length pieces - 1)
last_piece_of other = None

-- the last piece as it is written, with its escapes
abbrev pub segment_at_end : List (List ℕ) → Option (List ℕ)
segment_at_end pieces = option_map (percent_encode ESCAPED) (slice_get pieces (length pieces - 1))

abbrev pub front_of : Atom → Option (List (List ℕ))
front_of (PathUnder pieces) = Some pieces
front_of other = None

abbrev pub scheme_of : Atom → Option (List ℕ)
scheme_of (SchemeIs scheme) = Some scheme
scheme_of other = None

abbrev pub nonce_of : Atom → Option (List ℕ)
nonce_of (NonceIs value) = Some value
nonce_of other = None

abbrev pub host_of : Atom → Option Host
host_of (HostIs host) = Some host
host_of other = None

abbrev pub suffix_of : Atom → Option (List ℕ)
suffix_of (HostUnder suffix) = Some suffix
suffix_of other = None

abbrev pub is_on_domains : Atom → Bool
is_on_domains HostDomain = true
is_on_domains other = false

-- the text that the atom says of a host, a scheme or the end of a path
abbrev pub text_of : Atom → Option (List ℕ)
text_of (HostIs host) = Some (host_text host)
text_of (PathIs pieces) = segment_at_end pieces
text_of (SchemeIs scheme) = Some scheme
text_of other = None

-- the digest that an atom speaks of, where it is one of the algorithm
abbrev pub digest_of : Algorithm → Atom → Option (List ℕ)
digest_of Sha256 (DigestIs (one.Sha256 bytes)) = Some bytes
digest_of Sha384 (DigestIs (one.Sha384 bytes)) = Some bytes
digest_of Sha512 (DigestIs (one.Sha512 bytes)) = Some bytes
digest_of algorithm other = None

-- the number that the first eight bytes are, the highest first; fewer bytes are 0
abbrev pub lead : List ℕ → ℕ
lead bytes = if nat_lt (length bytes) 8 then 0 else from_be_bytes w64 (take 8 bytes)

-- what the atom says of the part: a port, or the number with which a digest begins
abbrev pub number_of : CheckPart → Atom → Option ℕ
number_of part.Port atom = port_of atom
number_of (part.Digest algorithm) atom = option_map lead (digest_of algorithm atom)
number_of other atom = None
