-- What literals say of an atom: the value that the atom then has, or none. And when one literal refutes
-- another.
use Rattle.std.specs.Prelude.{◌≡◌, ℕ, ◌==◌, Bool, true, false, not, List, [], ◌∷◌, Option, Some, None, if◌then◌else◌}
use Rattle.std.specs.Str.{bytes_eq}
use Rattle.std.specs.Cmp.Lexicographic.{pointwise}
use Rattle.csp_model.specs.Ascii.{code}
use Rattle.csp_model.specs.DecideMatching.{is_domain_host}
use Rattle.csp_model.specs.DecideEnds.{is_subdomain, is_host_under, begins_with, goes_beyond}
use Rattle.csp_model.specs.DecideEquality.{same_host, same_hash}
use Rattle.csp_model.specs.declared.check.Digest.{Digest}
use Rattle.csp_model.specs.declared.check.Digest.TheVariants.{Sha256, Sha384, Sha512}
use Rattle.csp_facts.specs.declared.atom.Atom.{Atom}
use Rattle.csp_facts.specs.declared.atom.Atom.TheVariants.{HostIs, HostUnder, HostDomain, PortIs, PathIs, PathUnder, SchemeIs, NonceIs, IntegrityHas, IntegrityOutside, DigestIs}
use Rattle.csp_facts.specs.declared.atom.Literal.{Literal}

-- Tests

-- the domain is the suffix, or lies under it: with "." before it, it ends in "." and the suffix
abbrev pub lies_within : List ℕ → List ℕ → Bool
lies_within domain suffix = is_subdomain (code "." ∷ domain) suffix

abbrev pub same_path : List (List ℕ) → List (List ℕ) → Bool
same_path p q = pointwise bytes_eq p q

-- Answers

abbrev pub true_where : Bool → Option Bool
true_where test = if test then Some true else None

abbrev pub false_where : Bool → Option Bool
false_where test = if test then Some false else None

-- of two nested sets, or two that are apart: true where the inner one is known, false where they are apart
abbrev pub nested : Bool → Bool → Option Bool
nested inner outer = if inner then Some true else false_where (not outer)

abbrev pub same_digest : Digest → Digest → Option Bool
same_digest (Sha256 d) (Sha256 e) = Some (bytes_eq d e)
same_digest (Sha384 d) (Sha384 e) = Some (bytes_eq d e)
same_digest (Sha512 d) (Sha512 e) = Some (bytes_eq d e)
same_digest d e = None

-- where the first holds, the second is so
abbrev pub follows_true : Atom → Atom → Option Bool
follows_true (HostIs h) (HostIs g) = Some (same_host h g)
follows_true (HostIs h) (HostUnder t) = Some (is_host_under h t)
follows_true (HostIs h) HostDomain = Some (is_domain_host h)
follows_true (HostUnder s) HostDomain = Some true
follows_true (HostUnder s) (HostUnder t) = nested (lies_within s t) (lies_within t s)
follows_true (HostUnder s) (HostIs h) = false_where (not (is_host_under h s))
follows_true HostDomain HostDomain = Some true
follows_true HostDomain (HostIs h) = false_where (not (is_domain_host h))
follows_true (PortIs n) (PortIs m) = Some (n == m)
follows_true (PathIs p) (PathIs q) = Some (same_path p q)
follows_true (PathIs p) (PathUnder q) = Some (goes_beyond p q)
follows_true (PathUnder p) (PathUnder q) = nested (begins_with p q) (begins_with q p)
follows_true (PathUnder p) (PathIs q) = false_where (not (goes_beyond q p))
follows_true (SchemeIs s) (SchemeIs t) = Some (bytes_eq s t)
follows_true (NonceIs v) (NonceIs w) = Some (bytes_eq v w)
follows_true (DigestIs d) (DigestIs e) = same_digest d e
follows_true (IntegrityHas h) (IntegrityHas g) = true_where (same_hash h g)
follows_true IntegrityOutside IntegrityOutside = Some true
follows_true known asked = None

-- a digest's denial denies that digest
abbrev pub false_of_digest : Digest → Digest → Option Bool
false_of_digest (Sha256 d) (Sha256 e) = false_where (bytes_eq d e)
false_of_digest (Sha384 d) (Sha384 e) = false_where (bytes_eq d e)
false_of_digest (Sha512 d) (Sha512 e) = false_where (bytes_eq d e)
false_of_digest d e = None

-- where the first doesn't hold, the second is so
abbrev pub follows_false : Atom → Atom → Option Bool
follows_false (HostIs h) (HostIs g) = false_where (same_host h g)
follows_false (HostUnder t) (HostUnder s) = false_where (lies_within s t)
follows_false (HostUnder t) (HostIs h) = false_where (is_host_under h t)
follows_false HostDomain HostDomain = Some false
follows_false HostDomain (HostUnder s) = Some false
follows_false HostDomain (HostIs h) = false_where (is_domain_host h)
follows_false (PortIs n) (PortIs m) = false_where (n == m)
follows_false (PathIs p) (PathIs q) = false_where (same_path p q)
follows_false (PathUnder q) (PathUnder p) = false_where (begins_with p q)
follows_false (PathUnder q) (PathIs p) = false_where (goes_beyond p q)
follows_false (SchemeIs s) (SchemeIs t) = false_where (bytes_eq s t)
follows_false (NonceIs v) (NonceIs w) = false_where (bytes_eq v w)
follows_false (DigestIs d) (DigestIs e) = false_of_digest d e
follows_false (IntegrityHas h) (IntegrityHas g) = false_where (same_hash h g)
follows_false IntegrityOutside IntegrityOutside = Some false
follows_false known asked = None

abbrev pub follows : Literal → Atom → Option Bool
follows literal asked =
    if literal.positive then follows_true literal.atom asked else follows_false literal.atom asked

-- what the first literal says makes the other false
abbrev pub Refutes : Literal → Literal → Type 0
Refutes literal other = follows literal other.atom ≡ Some (not other.positive)

-- the first answer that there is
abbrev pub or_else : Option Bool → Option Bool → Option Bool
or_else (Some value) rest = Some value
or_else None rest = rest

-- what the first literal that decides the atom says
abbrev pub decided : List Literal → Atom → Option Bool
decided [] atom = None
decided (literal ∷ literals) atom = or_else (follows literal atom) (decided literals atom)
