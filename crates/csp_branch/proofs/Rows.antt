-- The table of what literals say, row by row, is told by which atoms are around which.
use Rattle.std.proofs.Common.{◌≡◌, ◌≢◌, ◌∙◌, ap, ◌==◌, Bool, true, false, not, Option, Some, None, refl, sym}
use Rattle.std.specs.Prelude.{is_some}
use Rattle.std.specs.Bool.{Decides}
use Rattle.std.specs.Str.{bytes_eq}
use Rattle.std.proofs.lemmas.Bool.Decides.{Decides-eqb, same_from_decides}
use Rattle.std.proofs.lemmas.Slice.Eq.{bytes_eq-Decides}
use Rattle.csp_model.specs.DecideMatching.{is_domain_host}
use Rattle.csp_model.specs.DecideEnds.{is_host_under, begins_with, goes_beyond}
use Rattle.csp_model.specs.DecideEquality.{same_host, same_hash}
use Rattle.csp_model.proofs.EqualityDecided.{same_host_decides, same_hash_decides}
use Rattle.csp_model.specs.declared.check.CheckPart.TheVariants as part
use Rattle.csp_model.specs.declared.check.Digest.TheVariants.{Sha256, Sha384, Sha512}
use Rattle.csp_facts.specs.Atoms.{part_of}
use Rattle.csp_facts.specs.Follows.{lies_within, same_path, true_where, false_where, nested, follows_true, follows_false}
use Rattle.csp_facts.specs.declared.atom.Atom.{Atom}
use Rattle.csp_facts.specs.declared.atom.Atom.TheVariants.{HostIs, HostUnder, HostDomain, PortIs, PathIs, PathUnder, SchemeIs, NonceIs, IntegrityHas, IntegrityOutside, DigestIs}
use Rattle.csp_facts.proofs.TableTests.{same_path_decides}
use Rattle.csp_branch.specs.Around.{is_around, StandsAlone}

-- one is around the other, or they are apart
alone : (test : Bool) → Some test ≡ nested (is_some (false_where test)) (is_some (false_where test))
alone true = refl
alone false = refl

both : (test turned : Bool) → test ≡ turned → Some test ≡ nested (is_some (false_where turned)) (is_some (false_where test))
both test turned e = rw (← e) (alone test)

inner : (test : Bool) → Some test ≡ nested (is_some (false_where test)) false
inner true = refl
inner false = refl

outer : (test : Bool) → false_where (not test) ≡ nested false (is_some (false_where test))
outer true = refl
outer false = refl

each : (one other : Bool) → nested one other ≡ nested (is_some (false_where one)) (is_some (false_where other))
each true other = refl
each false true = refl
each false false = refl

module _ {A : Type 0} (same : A → A → Bool) (decides : (x y : A) → Decides (same x y) (x ≡ y)) where
  turned : (x y : A) → same x y ≡ same y x
  turned x y = same_from_decides (same x y) (same y x) (decides x y) ((λ e. sym ((decides y x).0 e)), λ e. (decides y x).1 (sym e))

  equal : (x y : A) → Some (same x y) ≡ nested (is_some (false_where (same y x))) (is_some (false_where (same x y)))
  equal x y = both (same x y) (same y x) (turned x y)

pub rows : (known asked : Atom) → part_of known ≡ part_of asked → StandsAlone known → follows_true known asked ≡ nested (is_around asked known) (is_around known asked)
rows (HostIs h) (HostIs g) e k = equal same_host same_host_decides h g
rows (HostIs h) (HostUnder t) e k = inner (is_host_under h t)
rows (HostIs h) HostDomain e k = inner (is_domain_host h)
rows (HostUnder s) HostDomain e k = refl
rows (HostUnder s) (HostUnder t) e k = each (lies_within s t) (lies_within t s)
rows (HostUnder s) (HostIs h) e k = outer (is_host_under h s)
rows HostDomain HostDomain e k = refl
rows HostDomain (HostUnder t) e k = refl
rows HostDomain (HostIs h) e k = outer (is_domain_host h)
rows (PortIs n) (PortIs m) e k = equal ◌==◌ Decides-eqb n m
rows (PathIs p) (PathIs q) e k = equal same_path same_path_decides p q
rows (PathIs p) (PathUnder q) e k = inner (goes_beyond p q)
rows (PathUnder p) (PathUnder q) e k = each (begins_with p q) (begins_with q p)
rows (PathUnder p) (PathIs q) e k = outer (goes_beyond q p)
rows (SchemeIs s) (SchemeIs t) e k = equal bytes_eq bytes_eq-Decides s t
rows (NonceIs v) (NonceIs w) e k = equal bytes_eq bytes_eq-Decides v w
rows (DigestIs (Sha256 d)) (DigestIs (Sha256 f)) e k = equal bytes_eq bytes_eq-Decides d f
rows (DigestIs (Sha384 d)) (DigestIs (Sha384 f)) e k = equal bytes_eq bytes_eq-Decides d f
rows (DigestIs (Sha512 d)) (DigestIs (Sha512 f)) e k = equal bytes_eq bytes_eq-Decides d f
rows (IntegrityHas h) asked e k = absurd (k refl)
rows IntegrityOutside asked e k = absurd (k refl)
rows known asked e k = cc

-- a denial makes nothing true
may_deny : (test : Bool) → false_where test ≡ Some true → ⊥
may_deny true e = cc
may_deny false e = cc

never : (known asked : Atom) → follows_false known asked ≡ Some true → ⊥
never (HostIs h) (HostIs g) e = may_deny (same_host h g) e
never (HostUnder t) (HostUnder s) e = may_deny (lies_within s t) e
never (HostUnder t) (HostIs h) e = may_deny (is_host_under h t) e
never HostDomain (HostIs h) e = may_deny (is_domain_host h) e
never (PortIs n) (PortIs m) e = may_deny (n == m) e
never (PathIs p) (PathIs q) e = may_deny (same_path p q) e
never (PathUnder q) (PathUnder p) e = may_deny (begins_with p q) e
never (PathUnder q) (PathIs p) e = may_deny (goes_beyond p q) e
never (SchemeIs s) (SchemeIs t) e = may_deny (bytes_eq s t) e
never (NonceIs v) (NonceIs w) e = may_deny (bytes_eq v w) e
never (DigestIs (Sha256 d)) (DigestIs (Sha256 f)) e = may_deny (bytes_eq d f) e
never (DigestIs (Sha384 d)) (DigestIs (Sha384 f)) e = may_deny (bytes_eq d f) e
never (DigestIs (Sha512 d)) (DigestIs (Sha512 f)) e = may_deny (bytes_eq d f) e
never (IntegrityHas h) (IntegrityHas g) e = may_deny (same_hash h g) e
never HostDomain HostDomain e = cc
never IntegrityOutside IntegrityOutside e = cc
never known asked e = cc

pub row_of_denial : (known asked : Atom) → follows_false known asked ≡ false_where (is_around known asked)
row_of_denial known asked = by_answer (follows_false known asked) refl
  where
    by_answer : (answer : Option Bool) → follows_false known asked ≡ answer → answer ≡ false_where (is_some answer)
    by_answer None e = refl
    by_answer (Some false) e = refl
    by_answer (Some true) e = absurd (never known asked e)

-- Integrity metadata, and different parts

same_test : (test : Bool) → true_where test ≡ true_where (is_some (false_where test))
same_test true = refl
same_test false = refl

pub rows_of_pairs : (known asked : Atom) → part_of known ≡ part.Integrity → follows_true known asked ≡ true_where (is_around asked known)
rows_of_pairs (IntegrityHas h) (IntegrityHas g) e = ap true_where (turned same_hash same_hash_decides h g) ∙ same_test (same_hash g h)
rows_of_pairs (IntegrityHas h) asked e = refl
rows_of_pairs IntegrityOutside IntegrityOutside e = refl
rows_of_pairs IntegrityOutside asked e = refl
rows_of_pairs known asked e = cc

pub rows_apart : (known asked : Atom) → (part_of known ≢ part_of asked) → follows_true known asked ≡ None
rows_apart (HostIs h) (HostIs g) apart = absurd (apart refl)
rows_apart (HostIs h) (HostUnder t) apart = absurd (apart refl)
rows_apart (HostIs h) HostDomain apart = absurd (apart refl)
rows_apart (HostUnder s) (HostIs h) apart = absurd (apart refl)
rows_apart (HostUnder s) (HostUnder t) apart = absurd (apart refl)
rows_apart (HostUnder s) HostDomain apart = absurd (apart refl)
rows_apart HostDomain (HostIs h) apart = absurd (apart refl)
rows_apart HostDomain HostDomain apart = absurd (apart refl)
rows_apart (PortIs n) (PortIs m) apart = absurd (apart refl)
rows_apart (PathIs p) (PathIs q) apart = absurd (apart refl)
rows_apart (PathIs p) (PathUnder q) apart = absurd (apart refl)
rows_apart (PathUnder p) (PathIs q) apart = absurd (apart refl)
rows_apart (PathUnder p) (PathUnder q) apart = absurd (apart refl)
rows_apart (SchemeIs s) (SchemeIs t) apart = absurd (apart refl)
rows_apart (NonceIs v) (NonceIs w) apart = absurd (apart refl)
rows_apart (DigestIs (Sha256 d)) (DigestIs (Sha256 f)) apart = absurd (apart refl)
rows_apart (DigestIs (Sha384 d)) (DigestIs (Sha384 f)) apart = absurd (apart refl)
rows_apart (DigestIs (Sha512 d)) (DigestIs (Sha512 f)) apart = absurd (apart refl)
rows_apart (IntegrityHas h) (IntegrityHas g) apart = absurd (apart refl)
rows_apart IntegrityOutside IntegrityOutside apart = absurd (apart refl)
rows_apart known asked apart = refl
