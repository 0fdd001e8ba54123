-- The tests of `Holding` decide what `Atoms` says, and a literal that is true of a check says what value its atom has.
use Rattle.std.proofs.Common.{◌≡◌, ◌≢◌, ℕ, ◌==◌, Bool, true, false, not, List, [], Option, Some, None, MatchOption, Contains, IsTrue, refl}
use Rattle.std.specs.Prelude.{unwrap_or}
use Rattle.std.specs.Bool.{Decides}
use Rattle.std.specs.Str.{bytes_eq}
use Rattle.std.proofs.lemmas.Bool.{not-true}
use Rattle.std.proofs.lemmas.Bool.Decides.{Decides-eqb, Decides-not}
use Rattle.std.proofs.lemmas.Slice.Eq.{bytes_eq-Decides}
use Rattle.csp_model.specs.DecideMatching.{is_domain_host, path_matches}
use Rattle.csp_model.specs.DecideEnds.{is_host_under}
use Rattle.csp_model.specs.Matching.{IsDomainHost, IsHostUnder, PathMatches}
use Rattle.csp_model.specs.Parts.{checked_url, checked_nonce, checked_integrity, checked_digests}
use Rattle.csp_model.specs.DecideEquality.{same_host, same_hash}
use Rattle.csp_model.specs.Schemes.{default_port}
use Rattle.csp_model.specs.Tokens.{digest_by, algorithm_of, bytes_of}
use Rattle.csp_model.specs.declared.check.Check.{Check}
use Rattle.csp_model.specs.declared.check.Check.TheVariants as check
use Rattle.csp_model.specs.declared.check.Digest.{Digest}
use Rattle.csp_model.specs.declared.source.Hash.{Hash}
use Rattle.csp_model.specs.declared.source.PathPart.TheVariants as path_part
use Rattle.csp_model.specs.declared.url.Host.{Host}
use Rattle.csp_model.specs.declared.url.Scheme.{Scheme}
use Rattle.csp_model.specs.declared.url.Url.{Url}
use Rattle.csp_model.specs.declared.url.Url.TheVariants as url
use Rattle.csp_model.proofs.Deciding.{no, any_decides, has_decides}
use Rattle.csp_model.proofs.MatchingDecided.{domain_host_decides, host_under_decides, path_decides}
use Rattle.csp_model.proofs.EqualityDecided.{same_host_decides, same_hash_decides}
use Rattle.csp_facts.specs.Atoms.{OnHosted, OnPlain, HasDigest, HasOther, Holds}
use Rattle.csp_facts.specs.Holding.{on_hosted, on_plain, on_part, has_digest, has_hash, has_other, holds, is_true_of}
use Rattle.csp_facts.specs.declared.atom.Atom.{Atom}
use Rattle.csp_facts.specs.declared.atom.Atom.TheVariants.{HostIs, HostUnder, HostDomain, PortIs, PathIs, PathUnder, SchemeIs, NonceIs, IntegrityHas, IntegrityOutside, DigestIs}
use Rattle.csp_facts.specs.declared.atom.Literal.{Literal}

-- From the parts of a check to the check

hosted_decides : (there : Option Url) (test : Scheme → Host → Option ℕ → List (List ℕ) → Bool)
    (P : Scheme → Host → Option ℕ → List (List ℕ) → Type 0)
    → ((scheme : Scheme) (host : Host) (port : Option ℕ) (path : List (List ℕ)) → Decides (test scheme host port path) (P scheme host port path))
    → Decides (on_hosted there test) (OnHosted there P)
hosted_decides (Some (url.Hosted scheme host port path)) test P each = each scheme host port path
hosted_decides there test P each = no (λ h. h)

plain_decides : (there : Option Url) (test : List ℕ → Bool) (P : List ℕ → Type 0)
    → ((scheme : List ℕ) → Decides (test scheme) (P scheme)) → Decides (on_plain there test) (OnPlain there P)
plain_decides (Some (url.Plain scheme)) test P each = each scheme
plain_decides there test P each = no (λ h. h)

part_decides : {A : Type 0} (part : Option A) (test : A → Bool) (P : A → Type 0) → ((x : A) → Decides (test x) (P x))
    → Decides (on_part part test) (MatchOption part ⊥ P)
part_decides (Some x) test P each = each x
part_decides None test P each = no (λ h. h)

-- Hashes

pub has_hash_decides : (hashes : List Hash) (h : Hash) → Decides (has_hash hashes h) (Contains hashes h)
has_hash_decides hashes h = has_decides (λ g. same_hash g h) h (λ g. same_hash_decides g h) hashes

pub has_other_decides : (hashes pairs : List Hash) → Decides (has_other hashes pairs) (HasOther hashes pairs)
has_other_decides hashes pairs =
    any_decides (λ h. not (has_hash hashes h)) (λ h. ¬ Contains hashes h)
    (λ h. Decides-not (has_hash hashes h) (has_hash_decides hashes h)) pairs

-- Atoms

pub holds_decides : (hashes : List Hash) (asked : Check) (atom : Atom) → Decides (holds hashes asked atom) (Holds hashes asked atom)
holds_decides hashes asked (HostIs host) =
    hosted_decides (checked_url asked) (λ _ there _ _. same_host there host) (λ _ there _ _. there ≡ host)
    (λ _ there _ _. same_host_decides there host)
holds_decides hashes asked (HostUnder suffix) =
    hosted_decides (checked_url asked) (λ _ there _ _. is_host_under there suffix) (λ _ there _ _. IsHostUnder there suffix)
    (λ _ there _ _. host_under_decides there suffix)
holds_decides hashes asked HostDomain =
    hosted_decides (checked_url asked) (λ _ there _ _. is_domain_host there) (λ _ there _ _. IsDomainHost there)
    (λ _ there _ _. domain_host_decides there)
holds_decides hashes asked (PortIs n) =
    hosted_decides (checked_url asked) (λ scheme _ port _. unwrap_or port (default_port scheme) == n)
    (λ scheme _ port _. unwrap_or port (default_port scheme) ≡ n)
    (λ scheme _ port _. Decides-eqb (unwrap_or port (default_port scheme)) n)
holds_decides hashes asked (PathIs pieces) =
    hosted_decides (checked_url asked) (λ _ _ _ path. path_matches (path_part.Exact pieces) path)
    (λ _ _ _ path. PathMatches (path_part.Exact pieces) path) (λ _ _ _ path. path_decides (path_part.Exact pieces) path)
holds_decides hashes asked (PathUnder pieces) =
    hosted_decides (checked_url asked) (λ _ _ _ path. path_matches (path_part.Prefix pieces) path)
    (λ _ _ _ path. PathMatches (path_part.Prefix pieces) path) (λ _ _ _ path. path_decides (path_part.Prefix pieces) path)
holds_decides hashes asked (SchemeIs scheme) =
    plain_decides (checked_url asked) (λ there. bytes_eq there scheme) (λ there. there ≡ scheme) (λ there. bytes_eq-Decides there scheme)
holds_decides hashes asked (NonceIs value) =
    part_decides (checked_nonce asked) (λ nonce. bytes_eq nonce value) (λ nonce. nonce ≡ value) (λ nonce. bytes_eq-Decides nonce value)
holds_decides hashes asked (IntegrityHas hash) =
    part_decides (checked_integrity asked) (λ pairs. has_hash pairs hash) (λ pairs. Contains pairs hash) (λ pairs. has_hash_decides pairs hash)
holds_decides hashes asked IntegrityOutside =
    part_decides (checked_integrity asked) (has_other hashes) (HasOther hashes) (has_other_decides hashes)
holds_decides hashes asked (DigestIs digest) =
    part_decides (checked_digests asked) (λ digests. has_digest digests digest) (λ digests. HasDigest digests digest)
    (λ digests. bytes_eq-Decides (digest_by (algorithm_of digest) digests) (bytes_of digest))

-- An atom on no other part than a URL holds by the URL alone

hosted_again : (there : Option Url) (test : Scheme → Host → Option ℕ → List (List ℕ) → Bool)
    → on_hosted there test ≡ on_part there (λ u. on_hosted (Some u) test)
hosted_again (Some there) test = refl
hosted_again None test = refl

plain_again : (there : Option Url) (test : List ℕ → Bool) → on_plain there test ≡ on_part there (λ u. on_plain (Some u) test)
plain_again (Some there) test = refl
plain_again None test = refl

pub holds_by_url : (hashes : List Hash) (asked : Check) (atom : Atom) → ((value : List ℕ) → atom ≢ NonceIs value)
    → ((hash : Hash) → atom ≢ IntegrityHas hash) → atom ≢ IntegrityOutside → ((digest : Digest) → atom ≢ DigestIs digest)
    → holds hashes asked atom ≡ on_part (checked_url asked) (λ there. holds [] (check.Base there) atom)
holds_by_url hashes asked (HostIs host) a b c d = hosted_again (checked_url asked) _
holds_by_url hashes asked (HostUnder suffix) a b c d = hosted_again (checked_url asked) _
holds_by_url hashes asked HostDomain a b c d = hosted_again (checked_url asked) _
holds_by_url hashes asked (PortIs n) a b c d = hosted_again (checked_url asked) _
holds_by_url hashes asked (PathIs pieces) a b c d = hosted_again (checked_url asked) _
holds_by_url hashes asked (PathUnder pieces) a b c d = hosted_again (checked_url asked) _
holds_by_url hashes asked (SchemeIs scheme) a b c d = plain_again (checked_url asked) _
holds_by_url hashes asked (NonceIs value) a b c d = absurd (a value refl)
holds_by_url hashes asked (IntegrityHas hash) a b c d = absurd (b hash refl)
holds_by_url hashes asked IntegrityOutside a b c d = absurd (c refl)
holds_by_url hashes asked (DigestIs digest) a b c d = absurd (d digest refl)

-- Literals

by_sign : (hashes : List Hash) (asked : Check) (atom : Atom) (sign : Bool)
    → IsTrue (is_true_of hashes asked (record { atom = atom; positive = sign })) → holds hashes asked atom ≡ sign
by_sign hashes asked atom true h = h
by_sign hashes asked atom false h = not-true (holds hashes asked atom) h

-- the atom of a literal that is true has the value that its sign says
pub value_of_true : (hashes : List Hash) (asked : Check) (literal : Literal)
    → IsTrue (is_true_of hashes asked literal) → holds hashes asked literal.atom ≡ literal.positive
value_of_true hashes asked literal h = by_sign hashes asked literal.atom literal.positive h
