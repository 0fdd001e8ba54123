-- Whether an atom holds for a check, and whether a literal is true of it, as tests. The first says what
-- `Atoms.Holds` says.
use Rattle.std.specs.Prelude.{ℕ, ◌==◌, Bool, false, not, if◌then◌else◌, List, Option, Some, None, unwrap_or}
use Rattle.std.specs.List.{list_any}
use Rattle.std.specs.Str.{bytes_eq}
use Rattle.csp_model.specs.DecideMatching.{is_domain_host, path_matches}
use Rattle.csp_model.specs.DecideEnds.{is_host_under}
use Rattle.csp_model.specs.Parts.{checked_url, checked_nonce, checked_integrity, checked_digests}
use Rattle.csp_model.specs.DecideEquality.{same_host, same_hash}
use Rattle.csp_model.specs.Schemes.{default_port}
use Rattle.csp_model.specs.Tokens.{digest_by, algorithm_of, bytes_of}
use Rattle.csp_model.specs.declared.check.Check.{Check}
use Rattle.csp_model.specs.declared.check.Digest.{Digest}
use Rattle.csp_model.specs.declared.check.Digests.{Digests}
use Rattle.csp_model.specs.declared.source.Hash.{Hash}
use Rattle.csp_model.specs.declared.source.PathPart.TheVariants as path_part
use Rattle.csp_model.specs.declared.url.Host.{Host}
use Rattle.csp_model.specs.declared.url.Scheme.{Scheme}
use Rattle.csp_model.specs.declared.url.Url.{Url}
use Rattle.csp_model.specs.declared.url.Url.TheVariants as url
use Rattle.csp_facts.specs.declared.atom.Atom.{Atom}
use Rattle.csp_facts.specs.declared.atom.Atom.TheVariants.{HostIs, HostUnder, HostDomain, PortIs, PathIs, PathUnder, SchemeIs, NonceIs, IntegrityHas, IntegrityOutside, DigestIs}
use Rattle.csp_facts.specs.declared.atom.Literal.{Literal}

-- the test of the parts of a URL with a host
abbrev pub on_hosted : Option Url → (Scheme → Host → Option ℕ → List (List ℕ) → Bool) → Bool
on_hosted (Some (url.Hosted scheme host port path)) test = test scheme host port path
on_hosted there test = false

-- the test of the scheme of a URL without one
abbrev pub on_plain : Option Url → (List ℕ → Bool) → Bool
on_plain (Some (url.Plain scheme)) test = test scheme
on_plain there test = false

-- the test of a part that the check has
abbrev pub on_part : {A : Type 0} → Option A → (A → Bool) → Bool
on_part (Some part) test = test part
on_part None test = false

abbrev pub has_digest : Digests → Digest → Bool
has_digest digests digest = bytes_eq (digest_by (algorithm_of digest) digests) (bytes_of digest)

abbrev pub has_hash : List Hash → Hash → Bool
has_hash hashes h = list_any (λ g. same_hash g h) hashes

-- some pair isn't among the hashes
abbrev pub has_other : List Hash → List Hash → Bool
has_other hashes pairs = list_any (λ h. not (has_hash hashes h)) pairs

-- the atom holds for the check, where the vocabulary has these hashes
abbrev pub holds : List Hash → Check → Atom → Bool
holds hashes asked (HostIs host) =
    on_hosted (checked_url asked) (λ scheme there port path. same_host there host)
holds hashes asked (HostUnder suffix) =
    on_hosted (checked_url asked) (λ scheme there port path. is_host_under there suffix)
holds hashes asked HostDomain = on_hosted (checked_url asked) (λ scheme there port path. is_domain_host there)
holds hashes asked (PortIs n) =
    on_hosted (checked_url asked) (λ scheme there port path. unwrap_or port (default_port scheme) == n)
holds hashes asked (PathIs pieces) =
    on_hosted (checked_url asked) (λ scheme there port path. path_matches (path_part.Exact pieces) path)
holds hashes asked (PathUnder pieces) =
    on_hosted (checked_url asked) (λ scheme there port path. path_matches (path_part.Prefix pieces) path)
holds hashes asked (SchemeIs scheme) = on_plain (checked_url asked) (λ there. bytes_eq there scheme)
holds hashes asked (NonceIs value) = on_part (checked_nonce asked) (λ nonce. bytes_eq nonce value)
holds hashes asked (IntegrityHas hash) = on_part (checked_integrity asked) (λ pairs. has_hash pairs hash)
holds hashes asked IntegrityOutside = on_part (checked_integrity asked) (has_other hashes)
holds hashes asked (DigestIs digest) = on_part (checked_digests asked) (λ digests. has_digest digests digest)

-- the literal is true of the check: its atom holds, or the literal denies it
abbrev pub is_true_of : List Hash → Check → Literal → Bool
is_true_of hashes asked literal =
    if literal.positive then holds hashes asked literal.atom else not (holds hashes asked literal.atom)
