-- What literals say of one part of a check, whatever its other parts are.
use Rattle.std.specs.Prelude.{◌≡◌, ℕ, ◌==◌, Bool, true, false, not, if◌then◌else◌, List, Option, unwrap_or, All}
use Rattle.std.specs.Str.{bytes_eq}
use Rattle.csp_model.specs.DecideEnds.{is_host_under}
use Rattle.csp_model.specs.DecideEquality.{same_host}
use Rattle.csp_model.specs.DecideMatching.{is_domain_host, path_matches}
use Rattle.csp_model.specs.Schemes.{default_port}
use Rattle.csp_model.specs.Tokens.{bytes_of}
use Rattle.csp_model.specs.declared.check.CheckPart.{CheckPart}
use Rattle.csp_model.specs.declared.check.Digests.{Digests}
use Rattle.csp_model.specs.declared.source.Hash.{Hash}
use Rattle.csp_model.specs.declared.source.PathPart.TheVariants as path_part
use Rattle.csp_model.specs.declared.url.Host.{Host}
use Rattle.csp_model.specs.declared.url.Scheme.{Scheme}
use Rattle.csp_facts.specs.Atoms.{part_of}
use Rattle.csp_facts.specs.Holding.{has_digest, has_hash, has_other}
use Rattle.csp_facts.specs.declared.atom.Atom.{Atom}
use Rattle.csp_facts.specs.declared.atom.Atom.TheVariants.{HostIs, HostUnder, HostDomain, PortIs, PathIs, PathUnder, SchemeIs, NonceIs, IntegrityHas, IntegrityOutside, DigestIs}
use Rattle.csp_facts.specs.declared.atom.Literal.{Literal}

-- the literal is true, where this test says which atoms hold
abbrev pub agrees : (Atom → Bool) → Literal → Bool
agrees test literal = if literal.positive then test literal.atom else not (test literal.atom)

-- each literal on the part is true
abbrev pub MeetPart : CheckPart → (Atom → Bool) → List Literal → Type 0
MeetPart part test literals = All (λ (l : Literal). part_of l.atom ≡ part → agrees test l ≡ true) literals

-- the tests of the atoms on a part

abbrev pub host_holds : Host → Atom → Bool
host_holds there (HostIs host) = same_host there host
host_holds there (HostUnder suffix) = is_host_under there suffix
host_holds there HostDomain = is_domain_host there
host_holds there other = false

abbrev pub port_holds : Scheme → Option ℕ → Atom → Bool
port_holds scheme port (PortIs n) = unwrap_or port (default_port scheme) == n
port_holds scheme port other = false

abbrev pub path_holds : List (List ℕ) → Atom → Bool
path_holds path (PathIs pieces) = path_matches (path_part.Exact pieces) path
path_holds path (PathUnder pieces) = path_matches (path_part.Prefix pieces) path
path_holds path other = false

abbrev pub scheme_holds : List ℕ → Atom → Bool
scheme_holds there (SchemeIs scheme) = bytes_eq there scheme
scheme_holds there other = false

abbrev pub nonce_holds : List ℕ → Atom → Bool
nonce_holds nonce (NonceIs value) = bytes_eq nonce value
nonce_holds nonce other = false

abbrev pub integrity_holds : List Hash → List Hash → Atom → Bool
integrity_holds hashes pairs (IntegrityHas hash) = has_hash pairs hash
integrity_holds hashes pairs IntegrityOutside = has_other hashes pairs
integrity_holds hashes pairs other = false

abbrev pub digest_holds : Digests → Atom → Bool
digest_holds digests (DigestIs digest) = has_digest digests digest
digest_holds digests other = false

-- of an atom on a digest, whether these are its bytes
abbrev pub bytes_hold : List ℕ → Atom → Bool
bytes_hold bytes (DigestIs digest) = bytes_eq bytes (bytes_of digest)
bytes_hold bytes other = false

-- no literal's atom is true of the host
abbrev pub IsDenied : List Literal → Host → Type 0
IsDenied literals there = All (λ (l : Literal). host_holds there l.atom ≡ false) literals
