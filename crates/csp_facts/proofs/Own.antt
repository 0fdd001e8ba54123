-- A literal says of its own atom whether it is the atom or its denial: each test of a thing with itself is true.
use Rattle.std.proofs.Common.{◌≡◌, ℕ, ◌==◌, Bool, true, false, List, [], Some, refl, ap, sym}
use Rattle.std.specs.Str.{bytes_eq}
use Rattle.std.proofs.lemmas.Bool.Decides.{Decides-eqb}
use Rattle.std.proofs.lemmas.List.{append-nil}
use Rattle.std.proofs.lemmas.Slice.Eq.{bytes_eq-Decides}
use Rattle.csp_model.proofs.EndLaws.{begins_Decides}
use Rattle.csp_model.proofs.EqualityDecided.{same_host_decides, same_hash_decides}
use Rattle.csp_model.specs.DecideEnds.{begins_with}
use Rattle.csp_model.specs.DecideEquality.{same_host, same_hash}
use Rattle.csp_model.specs.declared.check.Digest.TheVariants.{Sha256, Sha384, Sha512}
use Rattle.csp_model.specs.declared.source.Hash.{Hash}
use Rattle.csp_model.specs.declared.url.Host.{Host}
use Rattle.csp_facts.specs.Follows.{lies_within, same_path, follows_true, follows_false, follows}
use Rattle.csp_facts.specs.declared.atom.Atom.{Atom}
use Rattle.csp_facts.specs.declared.atom.Atom.TheVariants.{HostIs, HostUnder, HostDomain, PortIs, PathIs, PathUnder, SchemeIs, NonceIs, IntegrityHas, IntegrityOutside, DigestIs}
use Rattle.csp_facts.specs.declared.atom.Literal.{Literal}
use Rattle.csp_facts.proofs.TableTests.{lies_within_decides, same_path_decides}

-- Each test of a thing with itself

number_itself : (n : ℕ) → (n == n) ≡ true
number_itself n = (Decides-eqb n n).1 refl

text_itself : (text : List ℕ) → bytes_eq text text ≡ true
text_itself text = (bytes_eq-Decides text text).1 refl

host_itself : (host : Host) → same_host host host ≡ true
host_itself host = (same_host_decides host host).1 refl

path_itself : (path : List (List ℕ)) → same_path path path ≡ true
path_itself path = (same_path_decides path path).1 refl

hash_itself : (hash : Hash) → same_hash hash hash ≡ true
hash_itself hash = (same_hash_decides hash hash).1 refl

within_itself : (suffix : List ℕ) → lies_within suffix suffix ≡ true
within_itself suffix = (lies_within_decides suffix suffix).1 ([], refl)

begins_with_itself : (path : List (List ℕ)) → begins_with path path ≡ true
begins_with_itself path = (begins_Decides path path).1 ([], sym (append-nil path))

-- Each atom

own_true : (a : Atom) → follows_true a a ≡ Some true
own_true (HostIs h) = ap Some (host_itself h)
own_true (HostUnder s) = rw (within_itself s)
own_true HostDomain = refl
own_true (PortIs n) = ap Some (number_itself n)
own_true (PathIs p) = ap Some (path_itself p)
own_true (PathUnder p) = rw (begins_with_itself p)
own_true (SchemeIs s) = ap Some (text_itself s)
own_true (NonceIs v) = ap Some (text_itself v)
own_true (IntegrityHas h) = rw (hash_itself h)
own_true IntegrityOutside = refl
own_true (DigestIs (Sha256 d)) = ap Some (text_itself d)
own_true (DigestIs (Sha384 d)) = ap Some (text_itself d)
own_true (DigestIs (Sha512 d)) = ap Some (text_itself d)

own_false : (a : Atom) → follows_false a a ≡ Some false
own_false (HostIs h) = rw (host_itself h)
own_false (HostUnder s) = rw (within_itself s)
own_false HostDomain = refl
own_false (PortIs n) = rw (number_itself n)
own_false (PathIs p) = rw (path_itself p)
own_false (PathUnder p) = rw (begins_with_itself p)
own_false (SchemeIs s) = rw (text_itself s)
own_false (NonceIs v) = rw (text_itself v)
own_false (IntegrityHas h) = rw (hash_itself h)
own_false IntegrityOutside = refl
own_false (DigestIs (Sha256 d)) = rw (text_itself d)
own_false (DigestIs (Sha384 d)) = rw (text_itself d)
own_false (DigestIs (Sha512 d)) = rw (text_itself d)

by_sign : (a : Atom) (sign : Bool) → follows (record { atom = a; positive = sign }) a ≡ Some sign
by_sign a true = own_true a
by_sign a false = own_false a

pub own : (literal : Literal) → follows literal literal.atom ≡ Some literal.positive
own literal = by_sign literal.atom literal.positive
