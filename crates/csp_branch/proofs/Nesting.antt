-- Valid atoms are nested or apart, and in the order of names what lies under one stands right behind it.
use Rattle.std.proofs.Common.{◌≡◌, ◌≢◌, ◌∙◌, refl, sym, ap, subst, ℕ, Bool, true, false, List, [], ◌++◌, append_assoc, ◌⊎◌, inl, inr}
use Rattle.std.specs.Cmp.{tied_itself}
use Rattle.std.specs.Ordering.{is_gt, ordering_reverse}
use Rattle.std.specs.declared.cmp.Ordering.{Ordering}
use Rattle.std.specs.declared.cmp.Ordering.TheVariants.{Less, Equal, Greater}
use Rattle.csp_model.specs.DecideEnds.{begins_with, goes_beyond}
use Rattle.csp_model.specs.declared.check.CheckPart.TheVariants as part
use Rattle.csp_model.proofs.EndLaws.{begins_Decides, beyond_Decides}
use Rattle.csp_model.proofs.PathFronts.{valid_read}
use Rattle.csp_facts.specs.Atoms.{part_of, IsValidAtom}
use Rattle.csp_facts.specs.declared.atom.Atom.{Atom}
use Rattle.csp_facts.specs.declared.atom.Atom.TheVariants.{HostIs, HostUnder, HostDomain, PortIs, PathIs, PathUnder, SchemeIs, NonceIs, IntegrityHas, IntegrityOutside, DigestIs}
use Rattle.csp_facts.proofs.SoundNesting.{beyond_through}
use Rattle.csp_branch.specs.Around.{is_around}
use Rattle.csp_branch.specs.Hosts.{IsHostAtom}
use Rattle.csp_branch.specs.Order.{name_cmp}
use Rattle.csp_branch.specs.Prefix.{IsFrontOf}
use Rattle.csp_branch.proofs.HostOrder as hosts
use Rattle.csp_branch.proofs.NameOrder.{name_total, itself, host_order, shown, show, first_of_both, fronts_between, front_front, front_path, under_is_low, beyond_is_low, flat_alone, IsFlat}
use Rattle.csp_branch.proofs.NameExact.{name_exact}
use Rattle.csp_branch.proofs.PartOrder.{stand_together}

-- Hosts

host_atom : (a b : Atom) → part_of a ≡ part.Host → part_of a ≡ part_of b → IsValidAtom b → IsHostAtom b
host_atom a b e f valid = record { part = sym f ∙ e; valid = valid }

host_low : (a b : Atom) → IsHostAtom a → IsHostAtom b → is_around a b ≡ true → is_gt (name_cmp a b) ≡ false
host_low a b one two h = ap is_gt (host_order a b one two) ∙ hosts.around_is_low a b one two h

host_between : (a b c : Atom) → IsHostAtom a → IsHostAtom b → IsHostAtom c → is_around a c ≡ true
    → is_gt (name_cmp a b) ≡ false → is_gt (name_cmp b c) ≡ false → is_around a b ≡ true
host_between a b c one two three h low high =
    hosts.around_between a b c one two three h (sym (ap is_gt (host_order a b one two)) ∙ low) (sym (ap is_gt (host_order b c two three)) ∙ high)

-- Paths

begins : (p q : List (List ℕ)) → is_around (PathUnder p) (PathUnder q) ≡ true → IsFrontOf p q
begins p q h = (begins_Decides q p).0 (shown (begins_with q p) h)

goes : (p q : List (List ℕ)) → is_around (PathUnder p) (PathIs q) ≡ true → (rest : List (List ℕ)) × (rest ≢ []) × (q ≡ p ++ rest)
goes p q h = (beyond_Decides q p).0 (shown (goes_beyond q p) h)

flat_low : (a b : Atom) → IsFlat a → is_around a b ≡ true → is_gt (name_cmp a b) ≡ false
flat_low a b flat h = subst (λ (x : Atom). is_gt (name_cmp a x) ≡ false) (sym (flat_alone a b flat h)) (ap is_gt (tied_itself name_total a))

flat_through : (a b c : Atom) → IsFlat b → is_around a b ≡ true → is_around b c ≡ true → is_around a c ≡ true
flat_through a b c flat h k = subst (λ (x : Atom). is_around a x ≡ true) (sym (flat_alone b c flat k)) h

flat_first : (a b c : Atom) → IsFlat a → is_around a b ≡ true → is_around b c ≡ true → is_around a c ≡ true
flat_first a b c flat h k = subst (λ (x : Atom). is_around x c ≡ true) (flat_alone a b flat h) k

level_of : (o : Ordering) → is_gt o ≡ false → is_gt (ordering_reverse o) ≡ false → o ≡ Equal
level_of Less h k = cc
level_of Equal h k = refl
level_of Greater h k = cc

flat_between : (a b c : Atom) → IsFlat a → is_around a c ≡ true → is_gt (name_cmp a b) ≡ false → is_gt (name_cmp b c) ≡ false → is_around a b ≡ true
flat_between a b c flat h low high =
    let back : is_gt (name_cmp b a) ≡ false = subst (λ (x : Atom). is_gt (name_cmp b x) ≡ false) (flat_alone a c flat h) high in
    let turned : is_gt (ordering_reverse (name_cmp a b)) ≡ false = sym (ap is_gt (name_total.antisymm b a)) ∙ back in
    let level = name_exact a b (level_of (name_cmp a b) low turned) in
    subst (λ (x : Atom). is_around a x ≡ true) level (itself a)

-- what is around an atom is on its part
pub around_same_part : (a b : Atom) → is_around a b ≡ true → part_of a ≡ part_of b
around_same_part (HostIs x) (HostIs y) h = refl
around_same_part (HostUnder x) (HostIs y) h = refl
around_same_part (HostUnder x) (HostUnder y) h = refl
around_same_part HostDomain (HostIs y) h = refl
around_same_part HostDomain (HostUnder y) h = refl
around_same_part HostDomain HostDomain h = refl
around_same_part (PathUnder p) (PathUnder q) h = refl
around_same_part (PathUnder p) (PathIs q) h = refl
around_same_part (PortIs n) b h = ap part_of (sym (flat_alone (PortIs n) b tt h))
around_same_part (PathIs p) b h = ap part_of (sym (flat_alone (PathIs p) b tt h))
around_same_part (SchemeIs s) b h = ap part_of (sym (flat_alone (SchemeIs s) b tt h))
around_same_part (NonceIs s) b h = ap part_of (sym (flat_alone (NonceIs s) b tt h))
around_same_part (IntegrityHas g) b h = ap part_of (sym (flat_alone (IntegrityHas g) b tt h))
around_same_part IntegrityOutside b h = ap part_of (sym (flat_alone IntegrityOutside b tt h))
around_same_part (DigestIs d) b h = ap part_of (sym (flat_alone (DigestIs d) b tt h))
around_same_part (HostIs x) b h = cc
around_same_part (HostUnder x) b h = cc
around_same_part HostDomain b h = cc
around_same_part (PathUnder p) b h = cc

-- no atom is above what it is around
pub low : (a b : Atom) → IsValidAtom a → IsValidAtom b → is_around a b ≡ true → is_gt (name_cmp a b) ≡ false
low (HostIs x) b v w h = host_low (HostIs x) b (record { part = refl; valid = v }) (host_atom (HostIs x) b refl (around_same_part (HostIs x) b h) w) h
low (HostUnder x) b v w h = host_low (HostUnder x) b (record { part = refl; valid = v }) (host_atom (HostUnder x) b refl (around_same_part (HostUnder x) b h) w) h
low HostDomain b v w h = host_low HostDomain b (record { part = refl; valid = v }) (host_atom HostDomain b refl (around_same_part HostDomain b h) w) h
low (PathUnder p) (PathUnder q) v w h = let front = begins p q h in under_is_low p q front.0 front.1
low (PathUnder p) (PathIs q) v w h = let front = goes p q h in beyond_is_low p q front.0 front.1 front.2
low (PathUnder p) b v w h = cc
low (PortIs n) b v w h = flat_low (PortIs n) b tt h
low (PathIs p) b v w h = flat_low (PathIs p) b tt h
low (SchemeIs s) b v w h = flat_low (SchemeIs s) b tt h
low (NonceIs s) b v w h = flat_low (NonceIs s) b tt h
low (IntegrityHas g) b v w h = flat_low (IntegrityHas g) b tt h
low IntegrityOutside b v w h = flat_low IntegrityOutside b tt h
low (DigestIs d) b v w h = flat_low (DigestIs d) b tt h

between_on_part : (a b c : Atom) → IsValidAtom a → IsValidAtom b → IsValidAtom c → part_of a ≡ part_of b → part_of a ≡ part_of c → is_around a c ≡ true
    → is_gt (name_cmp a b) ≡ false → is_gt (name_cmp b c) ≡ false → is_around a b ≡ true
between_on_part (HostIs x) b c v w u e f h lo hi =
    host_between (HostIs x) b c (record { part = refl; valid = v }) (host_atom (HostIs x) b refl e w) (host_atom (HostIs x) c refl f u) h lo hi
between_on_part (HostUnder x) b c v w u e f h lo hi =
    host_between (HostUnder x) b c (record { part = refl; valid = v }) (host_atom (HostUnder x) b refl e w) (host_atom (HostUnder x) c refl f u) h lo hi
between_on_part HostDomain b c v w u e f h lo hi =
    host_between HostDomain b c (record { part = refl; valid = v }) (host_atom HostDomain b refl e w) (host_atom HostDomain c refl f u) h lo hi
between_on_part (PathUnder p) (PathUnder q) (PathUnder s) v w u e f h lo hi =
    front_front p q (fronts_between p q s (valid_read p v.1) (valid_read q w.1) (begins p s h) (first_of_both p q 1 1 lo) (first_of_both q s 1 1 hi))
between_on_part (PathUnder p) (PathUnder q) (PathIs s) v w u e f h lo hi =
    let front = goes p s h in
    front_front p q (fronts_between p q s (valid_read p v.1) (valid_read q w.1) (front.0, front.2) (first_of_both p q 1 1 lo) (first_of_both q s 1 0 hi))
between_on_part (PathUnder p) (PathIs q) (PathUnder s) v w u e f h lo hi =
    front_path p q (fronts_between p q s (valid_read p v.1) (valid_read q w.1) (begins p s h) (first_of_both p q 1 0 lo) (first_of_both q s 0 1 hi)) lo
between_on_part (PathUnder p) (PathIs q) (PathIs s) v w u e f h lo hi =
    let front = goes p s h in
    front_path p q (fronts_between p q s (valid_read p v.1) (valid_read q w.1) (front.0, front.2) (first_of_both p q 1 0 lo) (first_of_both q s 0 0 hi)) lo
between_on_part (PathUnder p) b c v w u e f h lo hi = cc
between_on_part (PortIs n) b c v w u e f h lo hi = flat_between (PortIs n) b c tt h lo hi
between_on_part (PathIs p) b c v w u e f h lo hi = flat_between (PathIs p) b c tt h lo hi
between_on_part (SchemeIs s) b c v w u e f h lo hi = flat_between (SchemeIs s) b c tt h lo hi
between_on_part (NonceIs s) b c v w u e f h lo hi = flat_between (NonceIs s) b c tt h lo hi
between_on_part (IntegrityHas g) b c v w u e f h lo hi = flat_between (IntegrityHas g) b c tt h lo hi
between_on_part IntegrityOutside b c v w u e f h lo hi = flat_between IntegrityOutside b c tt h lo hi
between_on_part (DigestIs d) b c v w u e f h lo hi = flat_between (DigestIs d) b c tt h lo hi

-- what stands between an atom and one that it is around lies under it too
pub between_too : (a b c : Atom) → IsValidAtom a → IsValidAtom b → IsValidAtom c → is_around a c ≡ true
    → is_gt (name_cmp a b) ≡ false → is_gt (name_cmp b c) ≡ false → is_around a b ≡ true
between_too a b c v w u h lo hi =
    let one = around_same_part a c h in
    between_on_part a b c v w u (stand_together a b c one lo hi) one h lo hi

-- what lies under an atom that lies under another lies under that
pub through : (a b c : Atom) → IsValidAtom a → IsValidAtom b → IsValidAtom c
    → is_around a b ≡ true → is_around b c ≡ true → is_around a c ≡ true
through (HostIs x) b c v w u h k =
    let first = around_same_part (HostIs x) b h in
    hosts.through (HostIs x) b c (record { part = refl; valid = v }) (host_atom (HostIs x) b refl first w) (host_atom (HostIs x) c refl (first ∙ around_same_part b c k) u) h k
through (HostUnder x) b c v w u h k =
    let first = around_same_part (HostUnder x) b h in
    hosts.through (HostUnder x) b c (record { part = refl; valid = v }) (host_atom (HostUnder x) b refl first w) (host_atom (HostUnder x) c refl (first ∙ around_same_part b c k) u) h k
through HostDomain b c v w u h k =
    let first = around_same_part HostDomain b h in
    hosts.through HostDomain b c (record { part = refl; valid = v }) (host_atom HostDomain b refl first w) (host_atom HostDomain c refl (first ∙ around_same_part b c k) u) h k
through (PathUnder p) (PathUnder q) (PathUnder s) v w u h k =
    let first = begins p q h in
    let second = begins q s k in
    front_front p s (first.0 ++ second.0, second.1 ∙ ap (λ (l : List (List ℕ)). l ++ second.0) first.1 ∙ append_assoc p first.0 second.0)
through (PathUnder p) (PathUnder q) (PathIs s) v w u h k =
    show (goes_beyond s p) ((beyond_Decides s p).1 (beyond_through q p s (begins p q h) (goes q s k)))
through (PathUnder p) (PathIs q) c v w u h k = flat_through (PathUnder p) (PathIs q) c tt h k
through (PathUnder p) b c v w u h k = cc
through (PortIs n) b c v w u h k = flat_first (PortIs n) b c tt h k
through (PathIs p) b c v w u h k = flat_first (PathIs p) b c tt h k
through (SchemeIs s) b c v w u h k = flat_first (SchemeIs s) b c tt h k
through (NonceIs s) b c v w u h k = flat_first (NonceIs s) b c tt h k
through (IntegrityHas g) b c v w u h k = flat_first (IntegrityHas g) b c tt h k
through IntegrityOutside b c v w u h k = flat_first IntegrityOutside b c tt h k
through (DigestIs d) b c v w u h k = flat_first (DigestIs d) b c tt h k

lower_nests : (a b c : Atom) → IsValidAtom a → IsValidAtom b → IsValidAtom c → is_around a c ≡ true → is_around b c ≡ true
    → is_gt (name_cmp a b) ≡ false → is_around a b ≡ true
lower_nests a b c v w u h k lo =
    between_too a b c v w u h lo
    (low b c w u k)

pub nest : (a b c : Atom) → IsValidAtom a → IsValidAtom b → IsValidAtom c → is_around a c ≡ true → is_around b c ≡ true
    → (is_around a b ≡ true) ⊎ (is_around b a ≡ true)
nest a b c v w u h k = by (is_gt (name_cmp a b)) refl
  where
    other_way : (o : Ordering) → is_gt o ≡ true → is_gt (ordering_reverse o) ≡ false
    other_way Less e = cc
    other_way Equal e = cc
    other_way Greater e = refl

    by : (t : Bool) → is_gt (name_cmp a b) ≡ t → (is_around a b ≡ true) ⊎ (is_around b a ≡ true)
    by false e = inl (lower_nests a b c v w u h k e)
    by true e = inr (lower_nests b a c w v u k h (ap is_gt (name_total.antisymm b a) ∙ other_way (name_cmp a b) e))
