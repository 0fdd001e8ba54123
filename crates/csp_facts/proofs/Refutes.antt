-- Where one literal refutes another, the other refutes it: the table is closed under this, pair by pair of atoms.
use Rattle.std.proofs.Common.{◌≡◌, ◌==◌, Bool, true, false, not, Some, refl, sym}
use Rattle.std.specs.Bool.{Decides}
use Rattle.std.specs.Str.{bytes_eq}
use Rattle.std.proofs.lemmas.Bool.Decides.{Decides-eqb, same_from_decides}
use Rattle.std.proofs.lemmas.Slice.Eq.{bytes_eq-Decides}
use Rattle.csp_model.specs.DecideMatching.{is_domain_host}
use Rattle.csp_model.specs.DecideEnds.{is_host_under, begins_with, goes_beyond}
use Rattle.csp_model.specs.DecideEquality.{same_host, same_hash}
use Rattle.csp_model.proofs.EqualityDecided.{same_host_decides, same_hash_decides}
use Rattle.csp_model.specs.declared.check.Digest.TheVariants.{Sha256, Sha384, Sha512}
use Rattle.csp_facts.specs.Follows.{lies_within, same_path, true_where, false_where, nested, follows_true, follows_false, Refutes}
use Rattle.csp_facts.specs.declared.atom.Atom.{Atom}
use Rattle.csp_facts.specs.declared.atom.Atom.TheVariants.{HostIs, HostUnder, HostDomain, PortIs, PathIs, PathUnder, SchemeIs, NonceIs, IntegrityHas, IntegrityOutside, DigestIs}
use Rattle.csp_facts.specs.declared.atom.Literal.{Literal}
use Rattle.csp_facts.proofs.TableTests.{same_path_decides}

-- Answers on one test

shown : (test : Bool) → Some test ≡ Some true → false_where test ≡ Some false
shown true e = refl
shown false e = cc

shown_back : (test : Bool) → false_where test ≡ Some false → Some test ≡ Some true
shown_back true e = refl
shown_back false e = cc

denied : (test : Bool) → Some test ≡ Some false → false_where (not test) ≡ Some false
denied true e = cc
denied false e = refl

denied_back : (test : Bool) → false_where (not test) ≡ Some false → Some test ≡ Some false
denied_back true e = cc
denied_back false e = refl

known : (test : Bool) → true_where test ≡ Some true → Some test ≡ Some true
known true e = refl
known false e = cc

known_back : (test : Bool) → Some test ≡ Some true → true_where test ≡ Some true
known_back true e = refl
known_back false e = cc

never_true : {P : Type 0} (test : Bool) → false_where test ≡ Some true → P
never_true true e = cc
never_true false e = cc

never_false : {P : Type 0} (test : Bool) → true_where test ≡ Some false → P
never_false true e = cc
never_false false e = cc

-- Answers on two nested sets

apart : (inner outer : Bool) → nested inner outer ≡ Some false → nested outer inner ≡ Some false
apart true outer e = cc
apart false true e = cc
apart false false e = refl

inside : (inner outer : Bool) → nested inner outer ≡ Some true → false_where inner ≡ Some false
inside true outer e = refl
inside false true e = cc
inside false false e = cc

inside_back : (inner outer : Bool) → false_where inner ≡ Some false → nested inner outer ≡ Some true
inside_back true outer e = refl
inside_back false outer e = cc

-- Answers on a test of equality, which is the same the other way round

module _ {A : Type 0} (same : A → A → Bool) (decides : (x y : A) → Decides (same x y) (x ≡ y)) (x y : A) where
  turned : same x y ≡ same y x
  turned = same_from_decides (same x y) (same y x) (decides x y) ((λ e. sym ((decides y x).0 e)), λ e. (decides y x).1 (sym e))

  unequal : Some (same x y) ≡ Some false → Some (same y x) ≡ Some false
  unequal e = rw (← turned) e

  equal : Some (same x y) ≡ Some true → false_where (same y x) ≡ Some false
  equal e = rw (← turned) (shown (same x y) e)

  equal_back : false_where (same x y) ≡ Some false → Some (same y x) ≡ Some true
  equal_back e = rw (← turned) (shown_back (same x y) e)

-- Pairs of atoms

true_true : (a b : Atom) → follows_true a b ≡ Some false → follows_true b a ≡ Some false
true_true (HostIs h) (HostIs g) e = unequal same_host same_host_decides h g e
true_true (HostIs h) (HostUnder t) e = denied (is_host_under h t) e
true_true (HostIs h) HostDomain e = denied (is_domain_host h) e
true_true (HostUnder s) (HostUnder t) e = apart (lies_within s t) (lies_within t s) e
true_true (HostUnder s) (HostIs h) e = denied_back (is_host_under h s) e
true_true HostDomain (HostIs h) e = denied_back (is_domain_host h) e
true_true (PortIs n) (PortIs m) e = unequal ◌==◌ Decides-eqb n m e
true_true (PathIs p) (PathIs q) e = unequal same_path same_path_decides p q e
true_true (PathIs p) (PathUnder q) e = denied (goes_beyond p q) e
true_true (PathUnder p) (PathUnder q) e = apart (begins_with p q) (begins_with q p) e
true_true (PathUnder p) (PathIs q) e = denied_back (goes_beyond q p) e
true_true (SchemeIs s) (SchemeIs t) e = unequal bytes_eq bytes_eq-Decides s t e
true_true (NonceIs v) (NonceIs w) e = unequal bytes_eq bytes_eq-Decides v w e
true_true (DigestIs (Sha256 d)) (DigestIs (Sha256 f)) e = unequal bytes_eq bytes_eq-Decides d f e
true_true (DigestIs (Sha384 d)) (DigestIs (Sha384 f)) e = unequal bytes_eq bytes_eq-Decides d f e
true_true (DigestIs (Sha512 d)) (DigestIs (Sha512 f)) e = unequal bytes_eq bytes_eq-Decides d f e
true_true (IntegrityHas h) (IntegrityHas g) e = never_false (same_hash h g) e
true_true IntegrityOutside IntegrityOutside e = cc
true_true a b e = cc

true_false : (a b : Atom) → follows_true a b ≡ Some true → follows_false b a ≡ Some false
true_false (HostIs h) (HostIs g) e = equal same_host same_host_decides h g e
true_false (HostIs h) (HostUnder t) e = shown (is_host_under h t) e
true_false (HostIs h) HostDomain e = shown (is_domain_host h) e
true_false (HostUnder s) HostDomain e = refl
true_false (HostUnder s) (HostUnder t) e = inside (lies_within s t) (lies_within t s) e
true_false (HostUnder s) (HostIs h) e = never_true (not (is_host_under h s)) e
true_false HostDomain HostDomain e = refl
true_false HostDomain (HostIs h) e = never_true (not (is_domain_host h)) e
true_false (PortIs n) (PortIs m) e = equal ◌==◌ Decides-eqb n m e
true_false (PathIs p) (PathIs q) e = equal same_path same_path_decides p q e
true_false (PathIs p) (PathUnder q) e = shown (goes_beyond p q) e
true_false (PathUnder p) (PathUnder q) e = inside (begins_with p q) (begins_with q p) e
true_false (PathUnder p) (PathIs q) e = never_true (not (goes_beyond q p)) e
true_false (SchemeIs s) (SchemeIs t) e = equal bytes_eq bytes_eq-Decides s t e
true_false (NonceIs v) (NonceIs w) e = equal bytes_eq bytes_eq-Decides v w e
true_false (DigestIs (Sha256 d)) (DigestIs (Sha256 f)) e = equal bytes_eq bytes_eq-Decides d f e
true_false (DigestIs (Sha384 d)) (DigestIs (Sha384 f)) e = equal bytes_eq bytes_eq-Decides d f e
true_false (DigestIs (Sha512 d)) (DigestIs (Sha512 f)) e = equal bytes_eq bytes_eq-Decides d f e
true_false (IntegrityHas h) (IntegrityHas g) e = equal same_hash same_hash_decides h g (known (same_hash h g) e)
true_false IntegrityOutside IntegrityOutside e = refl
true_false a b e = cc

false_true : (a b : Atom) → follows_false a b ≡ Some false → follows_true b a ≡ Some true
false_true (HostIs h) (HostIs g) e = equal_back same_host same_host_decides h g e
false_true (HostUnder t) (HostUnder s) e = inside_back (lies_within s t) (lies_within t s) e
false_true (HostUnder t) (HostIs h) e = shown_back (is_host_under h t) e
false_true HostDomain HostDomain e = refl
false_true HostDomain (HostUnder s) e = refl
false_true HostDomain (HostIs h) e = shown_back (is_domain_host h) e
false_true (PortIs n) (PortIs m) e = equal_back ◌==◌ Decides-eqb n m e
false_true (PathIs p) (PathIs q) e = equal_back same_path same_path_decides p q e
false_true (PathUnder q) (PathUnder p) e = inside_back (begins_with p q) (begins_with q p) e
false_true (PathUnder q) (PathIs p) e = shown_back (goes_beyond p q) e
false_true (SchemeIs s) (SchemeIs t) e = equal_back bytes_eq bytes_eq-Decides s t e
false_true (NonceIs v) (NonceIs w) e = equal_back bytes_eq bytes_eq-Decides v w e
false_true (DigestIs (Sha256 d)) (DigestIs (Sha256 f)) e = equal_back bytes_eq bytes_eq-Decides d f e
false_true (DigestIs (Sha384 d)) (DigestIs (Sha384 f)) e = equal_back bytes_eq bytes_eq-Decides d f e
false_true (DigestIs (Sha512 d)) (DigestIs (Sha512 f)) e = equal_back bytes_eq bytes_eq-Decides d f e
false_true (IntegrityHas h) (IntegrityHas g) e = known_back (same_hash g h) (equal_back same_hash same_hash_decides h g e)
false_true IntegrityOutside IntegrityOutside e = refl
false_true a b e = cc

-- a denial makes nothing true
pub false_false : {P : Type 0} (a b : Atom) → follows_false a b ≡ Some true → P
false_false (HostIs h) (HostIs g) e = never_true (same_host h g) e
false_false (HostUnder t) (HostUnder s) e = never_true (lies_within s t) e
false_false (HostUnder t) (HostIs h) e = never_true (is_host_under h t) e
false_false HostDomain (HostIs h) e = never_true (is_domain_host h) e
false_false (PortIs n) (PortIs m) e = never_true (n == m) e
false_false (PathIs p) (PathIs q) e = never_true (same_path p q) e
false_false (PathUnder q) (PathUnder p) e = never_true (begins_with p q) e
false_false (PathUnder q) (PathIs p) e = never_true (goes_beyond p q) e
false_false (SchemeIs s) (SchemeIs t) e = never_true (bytes_eq s t) e
false_false (NonceIs v) (NonceIs w) e = never_true (bytes_eq v w) e
false_false (DigestIs (Sha256 d)) (DigestIs (Sha256 f)) e = never_true (bytes_eq d f) e
false_false (DigestIs (Sha384 d)) (DigestIs (Sha384 f)) e = never_true (bytes_eq d f) e
false_false (DigestIs (Sha512 d)) (DigestIs (Sha512 f)) e = never_true (bytes_eq d f) e
false_false (IntegrityHas h) (IntegrityHas g) e = never_true (same_hash h g) e
false_false IntegrityOutside IntegrityOutside e = cc
false_false a b e = cc

by_signs : (a b : Atom) (s t : Bool) → Refutes (record { atom = a; positive = s }) (record { atom = b; positive = t })
    → Refutes (record { atom = b; positive = t }) (record { atom = a; positive = s })
by_signs a b true true e = true_true a b e
by_signs a b true false e = true_false a b e
by_signs a b false true e = false_true a b e
by_signs a b false false e = false_false a b e

pub refutes_back : (literal other : Literal) → Refutes literal other → Refutes other literal
refutes_back literal other e = by_signs literal.atom other.atom literal.positive other.positive e
