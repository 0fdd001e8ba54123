-- What an atom says of a check, which part of a check it speaks of, and which atoms are valid.
use Rattle.std.specs.Prelude.{◌≡◌, ◌≢◌, ℕ, ◌<◌, ◌^◌, Bool, List, [], Option, Some, MatchOption, IsTrue, IsNone, Any, Contains, ⊤, unwrap_or}
use Rattle.std.specs.List.{list_all}
use Rattle.csp_model.specs.Grammar.{is_base64_value}
use Rattle.csp_model.specs.Matching.{IsDomainHost, IsHostUnder, PathMatches}
use Rattle.csp_model.specs.Parts.{checked_url, checked_nonce, checked_integrity, checked_digests}
use Rattle.csp_model.specs.Schemes.{scheme_named, default_port}
use Rattle.csp_model.specs.Tokens.{digest_by, algorithm_of, bytes_of, size_of}
use Rattle.csp_model.specs.Validity.{IsValidHost, IsOfSize, is_domain, is_piece, is_lower_scheme}
use Rattle.csp_model.specs.declared.check.Check.{Check}
use Rattle.csp_model.specs.declared.check.CheckPart.{CheckPart}
use Rattle.csp_model.specs.declared.check.CheckPart.TheVariants as part
use Rattle.csp_model.specs.declared.check.Digest.{Digest}
use Rattle.csp_model.specs.declared.check.Digests.{Digests}
use Rattle.csp_model.specs.declared.source.Hash.{Hash}
use Rattle.csp_model.specs.declared.source.PathPart.TheVariants as path_part
use Rattle.csp_model.specs.declared.url.Host.{Host}
use Rattle.csp_model.specs.declared.url.Scheme.{Scheme}
use Rattle.csp_model.specs.declared.url.Url.{Url}
use Rattle.csp_model.specs.declared.url.Url.TheVariants as url
use Rattle.csp_facts.specs.declared.atom.Atom.{Atom}
use Rattle.csp_facts.specs.declared.atom.Atom.TheVariants.{HostIs, HostUnder, HostDomain, PortIs, PathIs, PathUnder, SchemeIs, NonceIs, IntegrityHas, IntegrityOutside, DigestIs}

-- P of the parts of a URL with a host
abbrev pub OnHosted : Option Url → (Scheme → Host → Option ℕ → List (List ℕ) → Type 0) → Type 0
OnHosted (Some (url.Hosted scheme host port path)) P = P scheme host port path
OnHosted there P = ⊥

-- P of the scheme of a URL without one
abbrev pub OnPlain : Option Url → (List ℕ → Type 0) → Type 0
OnPlain (Some (url.Plain scheme)) P = P scheme
OnPlain there P = ⊥

abbrev pub HasDigest : Digests → Digest → Type 0
HasDigest digests digest = digest_by (algorithm_of digest) digests ≡ bytes_of digest

-- some pair isn't among the hashes
abbrev pub HasOther : List Hash → List Hash → Type 0
HasOther hashes pairs = Any (λ h. ¬ Contains hashes h) pairs

-- the atom holds for the check, where the vocabulary has these hashes
abbrev pub Holds : List Hash → Check → Atom → Type 0
Holds hashes asked (HostIs host) = OnHosted (checked_url asked) (λ scheme there port path. there ≡ host)
Holds hashes asked (HostUnder suffix) =
    OnHosted (checked_url asked) (λ scheme there port path. IsHostUnder there suffix)
Holds hashes asked HostDomain = OnHosted (checked_url asked) (λ scheme there port path. IsDomainHost there)
Holds hashes asked (PortIs n) =
    OnHosted (checked_url asked) (λ scheme there port path. unwrap_or port (default_port scheme) ≡ n)
Holds hashes asked (PathIs pieces) =
    OnHosted (checked_url asked) (λ scheme there port path. PathMatches (path_part.Exact pieces) path)
Holds hashes asked (PathUnder pieces) =
    OnHosted (checked_url asked) (λ scheme there port path. PathMatches (path_part.Prefix pieces) path)
Holds hashes asked (SchemeIs scheme) = OnPlain (checked_url asked) (λ there. there ≡ scheme)
Holds hashes asked (NonceIs value) = MatchOption (checked_nonce asked) ⊥ (λ nonce. nonce ≡ value)
Holds hashes asked (IntegrityHas hash) =
    MatchOption (checked_integrity asked) ⊥ (λ pairs. Contains pairs hash)
Holds hashes asked IntegrityOutside = MatchOption (checked_integrity asked) ⊥ (HasOther hashes)
Holds hashes asked (DigestIs digest) =
    MatchOption (checked_digests asked) ⊥ (λ digests. HasDigest digests digest)

-- the part of a check that an atom speaks of
abbrev pub part_of : Atom → CheckPart
part_of (HostIs host) = part.Host
part_of (HostUnder suffix) = part.Host
part_of HostDomain = part.Host
part_of (PortIs n) = part.Port
part_of (PathIs pieces) = part.Path
part_of (PathUnder pieces) = part.Path
part_of (SchemeIs scheme) = part.PlainScheme
part_of (NonceIs value) = part.Nonce
part_of (IntegrityHas hash) = part.Integrity
part_of IntegrityOutside = part.Integrity
part_of (DigestIs digest) = part.Digest (algorithm_of digest)

-- the atoms of a shape of checks are those on a part that it looks at
abbrev pub BelongsTo : (CheckPart → Bool) → Atom → Type 0
BelongsTo looks_at atom = IsTrue (looks_at (part_of atom))

-- a path as a proof spells it: at least one piece, none of them "." or ".."
abbrev pub IsValidPath : List (List ℕ) → Type 0
IsValidPath pieces = (pieces ≢ []) × IsTrue (list_all is_piece pieces)

abbrev pub IsValidDigest : Digest → Type 0
IsValidDigest digest = IsOfSize (size_of (algorithm_of digest)) (bytes_of digest)

-- an atom is valid where a proof can spell it
abbrev pub IsValidAtom : Atom → Type 0
IsValidAtom (HostIs host) = IsValidHost host
IsValidAtom (HostUnder suffix) = IsTrue (is_domain suffix)
IsValidAtom HostDomain = ⊤
IsValidAtom (PortIs n) = n < 2 ^ 16
IsValidAtom (PathIs pieces) = IsValidPath pieces
IsValidAtom (PathUnder pieces) = IsValidPath pieces
IsValidAtom (SchemeIs scheme) = IsTrue (is_lower_scheme scheme) × IsNone (scheme_named scheme)
IsValidAtom (NonceIs value) = IsTrue (is_base64_value value)
IsValidAtom (IntegrityHas hash) = IsTrue (is_base64_value hash.value)
IsValidAtom IntegrityOutside = ⊤
IsValidAtom (DigestIs digest) = IsValidDigest digest
