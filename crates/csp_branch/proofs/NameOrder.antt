-- In the order of names what an atom is around stands right behind it: hosts, paths, and atoms that are around themselves alone.
use Rattle.std.proofs.Common.{◌≡◌, ◌≢◌, ◌<◌, ◌∙◌, refl, sym, ap, ap₂, subst, ℕ, Bool, true, false, List, [], ◌∷◌, ◌++◌, length, arith}
use Rattle.std.specs.Prelude.{is_some, ◌==◌, ⊤}
use Rattle.std.specs.Cmp.{IsTotalOrder, on_total, tied_itself, nat_cmp_total}
use Rattle.std.specs.Cmp.Lexicographic.{slice_cmp, lists_total, nat_list_cmp_total}
use Rattle.std.specs.Ordering.{nat_cmp, ordering_then, is_gt}
use Rattle.std.specs.Str.{bytes_eq}
use Rattle.std.specs.declared.cmp.Ordering.{Ordering}
use Rattle.std.specs.declared.cmp.Ordering.TheVariants.{Less, Equal, Greater}
use Rattle.std.proofs.lemmas.Bool.Decides.{Decides-eqb}
use Rattle.std.proofs.lemmas.Slice.Eq.{bytes_eq-Decides}
use Rattle.csp_model.specs.DecideEnds.{begins_with, goes_beyond}
use Rattle.csp_model.specs.DecideEquality.{same_hash}
use Rattle.csp_model.specs.Paths.{front_text}
use Rattle.csp_model.specs.declared.check.Digest.TheVariants.{Sha256, Sha384, Sha512}
use Rattle.csp_model.proofs.EndLaws.{begins_Decides, beyond_Decides}
use Rattle.csp_model.proofs.EqualityDecided.{same_hash_decides}
use Rattle.csp_model.proofs.PathFronts.{IsRead, begun_from_text, further, further_text, longer_beyond}
use Rattle.csp_facts.specs.Follows.{false_where, same_path}
use Rattle.csp_facts.specs.declared.atom.Atom.{Atom}
use Rattle.csp_facts.specs.declared.atom.Atom.TheVariants.{HostIs, HostUnder, HostDomain, PortIs, PathIs, PathUnder, SchemeIs, NonceIs, IntegrityHas, IntegrityOutside, DigestIs}
use Rattle.csp_facts.proofs.Own.{own}
use Rattle.std.proofs.lemmas.Map.Lookups.{exact_bytes, exact_unsigned}
use Rattle.std.proofs.lemmas.List.{append-nil}
use Rattle.csp_facts.proofs.TableTests.{same_path_decides}
use Rattle.csp_branch.specs.Around.{is_around}
use Rattle.csp_branch.specs.Hosts.{host_key, host_cmp, IsHostAtom}
use Rattle.csp_branch.specs.Order.{text_cmp, path_key, name_key, name_cmp}
use Rattle.csp_branch.specs.Prefix.{IsFrontOf}
use Rattle.csp_branch.proofs.Prefixes.{front_is_low, front_is_below, between}

pub name_total : IsTotalOrder name_cmp
name_total = on_total name_key (lists_total nat_list_cmp_total)

pub then_level : (r : Ordering) → ordering_then r Equal ≡ r
then_level Less = refl
then_level Equal = refl
then_level Greater = refl

not_gt_first : (r s : Ordering) → is_gt (ordering_then r s) ≡ false → is_gt r ≡ false
not_gt_first Less s h = refl
not_gt_first Equal s h = refl
not_gt_first Greater s h = h

not_gt_then : (r s : Ordering) → is_gt r ≡ false → is_gt s ≡ false → is_gt (ordering_then r s) ≡ false
not_gt_then Less s h k = refl
not_gt_then Equal s h k = k
not_gt_then Greater s h k = h

pub itself : (a : Atom) → is_around a a ≡ true
itself a = ap is_some (own (record { atom = a; positive = false }))

-- Hosts

key_of_host : (a : Atom) → IsHostAtom a → name_key a ≡ (0 ∷ []) ∷ host_key a ∷ []
key_of_host (HostIs host) one = refl
key_of_host (HostUnder suffix) one = refl
key_of_host HostDomain one = refl
key_of_host a one = let e = one.part in cc

pub host_order : (a b : Atom) → IsHostAtom a → IsHostAtom b → name_cmp a b ≡ host_cmp a b
host_order a b one two = ap₂ (slice_cmp text_cmp) (key_of_host a one) (key_of_host b two) ∙ then_level (host_cmp a b)

-- Paths

abbrev pub pieces_cmp : List (List ℕ) → List (List ℕ) → Ordering
pieces_cmp = slice_cmp text_cmp

abbrev pub front_cmp : List (List ℕ) → List (List ℕ) → Ordering
front_cmp p q = text_cmp (front_text p) (front_text q)

pub shown : (test : Bool) → is_some (false_where test) ≡ true → test ≡ true
shown true e = refl
shown false e = cc

pub show : (test : Bool) → test ≡ true → is_some (false_where test) ≡ true
show test e = rw e refl

pub first_of_both : (p q : List (List ℕ)) (m n : ℕ) → is_gt (slice_cmp text_cmp (path_key p m) (path_key q n)) ≡ false
    → is_gt (front_cmp p q) ≡ false
first_of_both p q m n h = not_gt_first (front_cmp p q) (slice_cmp text_cmp ((m ∷ []) ∷ p) ((n ∷ []) ∷ q)) h

-- what stands between a front and a path that begins with it begins with it too
pub fronts_between : (p q s : List (List ℕ)) → IsRead p → IsRead q → IsFrontOf p s
    → is_gt (front_cmp p q) ≡ false → is_gt (front_cmp q s) ≡ false → IsFrontOf p q
fronts_between p q s read also (more, e) low high =
    let text : front_text s ≡ front_text p ++ further more = ap front_text e ∙ further_text p more in
    let found = between nat_cmp nat_cmp_total exact_unsigned (front_text p) (front_text q) (further more) low
    (subst (λ (t : List ℕ). is_gt (text_cmp (front_text q) t) ≡ false) text high) in
    begun_from_text q p found.0 also read found.1

pub front_front : (p q : List (List ℕ)) → IsFrontOf p q → is_around (PathUnder p) (PathUnder q) ≡ true
front_front p q (r, e) = show (begins_with q p) ((begins_Decides q p).1 (r, e))

pub front_path : (p q : List (List ℕ)) → IsFrontOf p q → is_gt (name_cmp (PathUnder p) (PathIs q)) ≡ false → is_around (PathUnder p) (PathIs q) ≡ true
front_path p q ([], e) low =
    let same : p ≡ q = sym (e ∙ append-nil p) in
    let level : front_cmp p p ≡ Equal = tied_itself nat_list_cmp_total (front_text p) in
    let order : name_cmp (PathUnder p) (PathIs p) ≡ Greater = ap (λ o. ordering_then o Greater) level in
    let here : is_gt (name_cmp (PathUnder p) (PathIs p)) ≡ false = subst (λ (x : List (List ℕ)). is_gt (name_cmp (PathUnder p) (PathIs x)) ≡ false) (sym same) low in
    let up : true ≡ false = sym (ap is_gt order) ∙ here in
    cc
front_path p q (x ∷ r, e) low = show (goes_beyond q p) ((beyond_Decides q p).1 (x ∷ r, (λ none. cc), e))

pub under_is_low : (p q : List (List ℕ)) (r : List (List ℕ)) → q ≡ p ++ r → is_gt (name_cmp (PathUnder p) (PathUnder q)) ≡ false
under_is_low p q r e =
    let text : front_text q ≡ front_text p ++ further r = ap front_text e ∙ further_text p r in
    let first : is_gt (front_cmp p q) ≡ false =
    subst (λ (t : List ℕ). is_gt (text_cmp (front_text p) t) ≡ false) (sym text) (front_is_low nat_cmp nat_cmp_total exact_unsigned (front_text p) (further r)) in
    let second : is_gt (pieces_cmp p q) ≡ false =
    subst (λ (l : List (List ℕ)). is_gt (pieces_cmp p l) ≡ false) (sym e) (front_is_low text_cmp nat_list_cmp_total exact_bytes p r) in
    not_gt_then (front_cmp p q) (pieces_cmp p q) first second

-- a text is below a longer one that begins with it
below_longer : (front rest text : List ℕ) → text ≡ front ++ rest → length front < length text → text_cmp front text ≡ Less
below_longer front [] text e long = absurd (omega (arith, ap length (e ∙ append-nil front)))
below_longer front (b ∷ rest) text e long =
    subst (λ (t : List ℕ). text_cmp front t ≡ Less) (sym e) (front_is_below nat_cmp nat_cmp_total exact_unsigned front rest b)

pub beyond_is_low : (p q : List (List ℕ)) (r : List (List ℕ)) → (r ≢ []) → q ≡ p ++ r → is_gt (name_cmp (PathUnder p) (PathIs q)) ≡ false
beyond_is_low p q r some e =
    let less : front_cmp p q ≡ Less =
    below_longer (front_text p) (further r) (front_text q) (ap front_text e ∙ further_text p r) (longer_beyond q p r some e) in
    ap is_gt (ap (λ o. ordering_then o Greater) less)

-- Atoms that are around themselves alone

abbrev pub IsFlat : Atom → Type 0
IsFlat (HostIs host) = ⊥
IsFlat (HostUnder suffix) = ⊥
IsFlat HostDomain = ⊥
IsFlat (PathUnder pieces) = ⊥
IsFlat atom = ⊤

pub flat_alone : (a c : Atom) → IsFlat a → is_around a c ≡ true → c ≡ a
flat_alone (PortIs n) (PortIs m) flat h = ap PortIs (sym ((Decides-eqb n m).0 (shown (n == m) h)))
flat_alone (PathIs p) (PathIs q) flat h = ap PathIs (sym ((same_path_decides p q).0 (shown (same_path p q) h)))
flat_alone (SchemeIs s) (SchemeIs t) flat h = ap SchemeIs (sym ((bytes_eq-Decides s t).0 (shown (bytes_eq s t) h)))
flat_alone (NonceIs s) (NonceIs t) flat h = ap NonceIs (sym ((bytes_eq-Decides s t).0 (shown (bytes_eq s t) h)))
flat_alone (IntegrityHas s) (IntegrityHas t) flat h = ap IntegrityHas (sym ((same_hash_decides s t).0 (shown (same_hash s t) h)))
flat_alone (DigestIs (Sha256 s)) (DigestIs (Sha256 t)) flat h = ap (λ d. DigestIs (Sha256 d)) (sym ((bytes_eq-Decides s t).0 (shown (bytes_eq s t) h)))
flat_alone (DigestIs (Sha384 s)) (DigestIs (Sha384 t)) flat h = ap (λ d. DigestIs (Sha384 d)) (sym ((bytes_eq-Decides s t).0 (shown (bytes_eq s t) h)))
flat_alone (DigestIs (Sha512 s)) (DigestIs (Sha512 t)) flat h = ap (λ d. DigestIs (Sha512 d)) (sym ((bytes_eq-Decides s t).0 (shown (bytes_eq s t) h)))
flat_alone IntegrityOutside IntegrityOutside flat h = refl
flat_alone (HostIs host) c flat h = absurd flat
flat_alone (HostUnder host) c flat h = absurd flat
flat_alone HostDomain c flat h = absurd flat
flat_alone (PathUnder pieces) c flat h = absurd flat
flat_alone a c flat h = cc
