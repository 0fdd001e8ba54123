-- Of two positive literals on one part one decides the other's atom, but on integrity metadata.
use Rattle.std.proofs.Common.{◌≡◌, ◌≢◌, ◌==◌, Bool, true, false, not, ◌&&◌, Some, refl, ◌⊎◌, inl, inr}
use Rattle.std.specs.Str.{bytes_eq}
use Rattle.csp_model.specs.DecideMatching.{is_domain_host}
use Rattle.csp_model.specs.DecideEnds.{is_host_under, begins_with, goes_beyond}
use Rattle.csp_model.specs.DecideEquality.{same_host}
use Rattle.csp_model.specs.declared.check.Digest.TheVariants.{Sha256, Sha384, Sha512}
use Rattle.csp_facts.proofs.Refutes.{refutes_back}
use Rattle.csp_facts.specs.Atoms.{part_of}
use Rattle.csp_facts.specs.Follows.{lies_within, same_path, nested, follows_true}
use Rattle.csp_facts.specs.declared.atom.Atom.{Atom}
use Rattle.csp_facts.specs.declared.atom.Atom.TheVariants.{HostIs, HostUnder, HostDomain, PortIs, PathIs, PathUnder, SchemeIs, NonceIs, DigestIs}
use Rattle.csp_facts.specs.declared.atom.Literal.{Literal}
use Rattle.csp_cell.specs.Cells.{StandTogether, is_integrity}
use Rattle.csp_cell.specs.Inside.{IsPlacing}
use Rattle.csp_cell.proofs.Covering.{covers_implied}

-- one of the two decides the other
abbrev Settles : Atom → Atom → Type 0
Settles a b = (v : Bool) × (follows_true a b ≡ Some v)

abbrev Settled : Atom → Atom → Type 0
Settled a b = Settles a b ⊎ Settles b a

by_nesting : (a b : Atom) (inner outer : Bool) → follows_true a b ≡ nested inner outer → follows_true b a ≡ nested outer inner → Settled a b
by_nesting a b true outer e f = inl (true, e)
by_nesting a b false true e f = inr (true, f)
by_nesting a b false false e f = inl (false, e)

settled : (a b : Atom) → is_integrity a ≡ false → part_of a ≡ part_of b → Settled a b
settled (HostIs h) (HostIs g) i e = inl (same_host h g, refl)
settled (HostIs h) (HostUnder t) i e = inl (is_host_under h t, refl)
settled (HostIs h) HostDomain i e = inl (is_domain_host h, refl)
settled (HostUnder s) (HostIs h) i e = inr (is_host_under h s, refl)
settled (HostUnder s) (HostUnder t) i e = by_nesting (HostUnder s) (HostUnder t) (lies_within s t) (lies_within t s) refl refl
settled (HostUnder s) HostDomain i e = inl (true, refl)
settled HostDomain (HostIs h) i e = inr (is_domain_host h, refl)
settled HostDomain (HostUnder t) i e = inr (true, refl)
settled HostDomain HostDomain i e = inl (true, refl)
settled (PortIs m) (PortIs n) i e = inl (m == n, refl)
settled (PathIs p) (PathIs q) i e = inl (same_path p q, refl)
settled (PathIs p) (PathUnder q) i e = inl (goes_beyond p q, refl)
settled (PathUnder p) (PathIs q) i e = inr (goes_beyond q p, refl)
settled (PathUnder p) (PathUnder q) i e = by_nesting (PathUnder p) (PathUnder q) (begins_with p q) (begins_with q p) refl refl
settled (SchemeIs s) (SchemeIs t) i e = inl (bytes_eq s t, refl)
settled (NonceIs s) (NonceIs t) i e = inl (bytes_eq s t, refl)
settled (DigestIs (Sha256 d)) (DigestIs (Sha256 c)) i e = inl (bytes_eq d c, refl)
settled (DigestIs (Sha384 d)) (DigestIs (Sha384 c)) i e = inl (bytes_eq d c, refl)
settled (DigestIs (Sha512 d)) (DigestIs (Sha512 c)) i e = inl (bytes_eq d c, refl)
settled a b i e = absurd cc

plain : (p i : Bool) → (p && not i) ≡ true → (p ≡ true) × (i ≡ false)
plain true false e = (refl, refl)
plain true true e = cc
plain false i e = cc

never : (a b : Atom) → Settles a b → StandTogether (record { atom = a; positive = true }) (record { atom = b; positive = true }) → ⊥
never a b (true, e) (beside, other, apart) = beside (λ atom v says. covers_implied (record { atom = a; positive = true }) (record { atom = b; positive = true }) (rw e refl) atom v says)
never a b (false, e) (beside, other, apart) = apart e

turned : (l m : Literal) → StandTogether l m → StandTogether m l
turned l m (beside, other, apart) = (other, beside, λ refutes. apart (refutes_back m l refutes))

by_signs : (a b : Atom) (s t : Bool) → s ≡ true → t ≡ true → is_integrity a ≡ false
    → StandTogether (record { atom = a; positive = s }) (record { atom = b; positive = t }) → part_of a ≢ part_of b
by_signs a b true true p q i stand same =
    elim (settled a b i same) [
      | inl first ↦ never a b first stand
      | inr second ↦ never b a second (turned (record { atom = a; positive = true }) (record { atom = b; positive = true }) stand)
    ]
by_signs a b false t p q i stand same = cc
by_signs a b true false p q i stand same = cc

pub placed_once : (l m : Literal) → StandTogether l m → IsPlacing l → IsPlacing m → part_of l.atom ≢ part_of m.atom
placed_once l m stand first second =
    let (p, i) = plain l.positive (is_integrity l.atom) first in
    let (q, j) = plain m.positive (is_integrity m.atom) second in
    by_signs l.atom m.atom l.positive m.positive p q i stand
