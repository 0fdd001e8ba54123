-- Keys are equal where they stand for the same.
use Rattle.std.proofs.Common.{◌≡◌, ℕ, Bool, true, ◌&&◌, ◌==◌, List, length, refl, sym, ◌∙◌, ap, ap₂, Ordering, Less, Equal, Greater, is_eq, nat_cmp, Option, Some, None}
use Rattle.std.specs.Option.{option_eq}
use Rattle.std.specs.Cmp.{unsigned_tied}
use Rattle.std.specs.Cmp.Lexicographic.{slice_cmp}
use Rattle.std.specs.Ordering.{ordering_then}
use Rattle.std.specs.Str.{bytes_eq}
use Rattle.std.proofs.lemmas.Bool.{false≢true}
use Rattle.std.proofs.lemmas.Bool.Decides.{Decides-eqb}
use Rattle.std.proofs.lemmas.Map.Text.{is_eq-slice_cmp}
use Rattle.std.proofs.lemmas.Slice.Eq.{bytes_eq-Decides}
use Rattle.csp_model.proofs.Deciding.{same_bool}
use Rattle.csp_match.specs.Types.{HostPart, HostKey, PathKind, PortKey, Target, SchemePort}
use Rattle.csp_match.specs.contracts.host_key.HostKeyPartialEq.TheImpl as host_equal
use Rattle.csp_match.specs.contracts.path_key.PathKindPartialEq.TheImpl as kind_equal
use Rattle.csp_match.specs.contracts.host_source.PortKeyPartialEq.TheImpl as port_equal
use Rattle.csp_match.specs.contracts.host_source.TargetPartialEq.TheImpl as target_equal
use Rattle.csp_match.specs.contracts.host_source.SchemePortPartialEq.TheImpl as way_equal
use Rattle.csp_match.specs.Entries.{entry_parts, Entry, scheme_of, way_port}
use Rattle.csp_match.specs.Fronts.{host_cmp}
use Rattle.csp_match.specs.Keys.{host_of, hash_of, IsHostKey, port_of}
use Rattle.csp_model.specs.Paths.{front_pieces}
use Rattle.csp_match.specs.Under.{same_part}
use Rattle.csp_match.proofs.AnyLaws.{both, first, second}

abbrev pub host_eq : HostKey → HostKey → Bool
host_eq = (host_equal.ghosts).eq

abbrev pub target_eq : Target → Target → Bool
target_eq = (target_equal.ghosts).eq

abbrev pub way_eq : SchemePort → SchemePort → Bool
way_eq = (way_equal.ghosts).eq

tied_both : (o p : Ordering) → is_eq (ordering_then o p) ≡ (is_eq o && is_eq p)
tied_both Less p = refl
tied_both Equal p = refl
tied_both Greater p = refl

-- Hosts

-- a number that a text determines tells no equal texts apart
of_number : (number : List ℕ → ℕ) (m n : ℕ) (s t : List ℕ) → m ≡ number s → n ≡ number t
    → (m == n && bytes_eq s t) ≡ bytes_eq s t
of_number number m n s t p q =
    same_bool _ _ (second (m == n) (bytes_eq s t))
    (λ h. let same = (bytes_eq-Decides s t).0 h in
    both _ _ ((Decides-eqb m n).1 (p ∙ (ap number same ∙ sym q))) h)

numbered : (m n : ℕ) (s t : List ℕ) → is_eq (ordering_then (nat_cmp m n) (slice_cmp nat_cmp s t)) ≡ (m == n && bytes_eq s t)
numbered m n s t =
    tied_both (nat_cmp m n) (slice_cmp nat_cmp s t) ∙ ap₂ (λ (a b : Bool). a && b) (unsigned_tied m n) (is_eq-slice_cmp s t)

numbered_texts : (number : List ℕ → ℕ) (m n : ℕ) (s t : List ℕ) → m ≡ number s → n ≡ number t
    → is_eq (ordering_then (nat_cmp m n) (slice_cmp nat_cmp s t)) ≡ bytes_eq s t
numbered_texts number m n s t p q = numbered m n s t ∙ of_number number m n s t p q

-- keys are level where they are equal
pub level_host : (a b : HostKey) → is_eq (host_cmp a b) ≡ host_eq a b
level_host HostKey.Any HostKey.Any = refl
level_host (HostKey.Under m s) (HostKey.Under n t) = numbered m n s.now t.now
level_host (HostKey.Exact m s) (HostKey.Exact n t) = numbered m n s.now t.now
level_host a b = refl

pub same_host_key : (a b : HostKey) → IsHostKey a → IsHostKey b → is_eq (host_cmp a b) ≡ same_part (host_of a) (host_of b)
same_host_key HostKey.Any HostKey.Any p q = refl
same_host_key (HostKey.Under m s) (HostKey.Under n t) p q = numbered_texts length m n s.now t.now p q
same_host_key (HostKey.Exact m s) (HostKey.Exact n t) p q = numbered_texts hash_of m n s.now t.now p q
same_host_key a b p q = refl

pub one_host : (a b : HostKey) → host_eq a b ≡ true → host_of a ≡ host_of b
one_host HostKey.Any HostKey.Any h = refl
one_host (HostKey.Under m s) (HostKey.Under n t) h =
    ap HostPart.Under ((bytes_eq-Decides s.now t.now).0 (second (m == n) (bytes_eq s.now t.now) h))
one_host (HostKey.Exact m s) (HostKey.Exact n t) h =
    ap HostPart.Exact ((bytes_eq-Decides s.now t.now).0 (second (m == n) (bytes_eq s.now t.now) h))
one_host a b h = absurd (false≢true h)

pub same_part_is : (a b : HostPart) → same_part a b ≡ true → a ≡ b
same_part_is HostPart.Any HostPart.Any h = refl
same_part_is (HostPart.Under s) (HostPart.Under t) h = ap HostPart.Under ((bytes_eq-Decides s t).0 h)
same_part_is (HostPart.Exact s) (HostPart.Exact t) h = ap HostPart.Exact ((bytes_eq-Decides s t).0 h)
same_part_is a b h = absurd (false≢true h)

pub same_part_itself : (a : HostPart) → same_part a a ≡ true
same_part_itself HostPart.Any = refl
same_part_itself (HostPart.Under s) = (bytes_eq-Decides s s).1 refl
same_part_itself (HostPart.Exact s) = (bytes_eq-Decides s s).1 refl

-- Entries

option_is : (a b : Option (List ℕ)) → option_eq bytes_eq a b ≡ true → a ≡ b
option_is None None h = refl
option_is (Some x) (Some y) h = ap Some ((bytes_eq-Decides x y).0 h)
option_is a b h = absurd (false≢true h)

one_port : (a b : PortKey) → (port_equal.ghosts).eq a b ≡ true → a ≡ b
one_port PortKey.Absent PortKey.Absent h = refl
one_port PortKey.Any PortKey.Any h = refl
one_port (PortKey.Number m) (PortKey.Number n) h = ap PortKey.Number ((Decides-eqb m n).0 h)
one_port a b h = absurd (false≢true h)

pub one_scheme : (v w : SchemePort) → way_eq v w ≡ true → scheme_of v ≡ scheme_of w
one_scheme v w h = option_is v.scheme.now w.scheme.now (first (option_eq bytes_eq v.scheme.now w.scheme.now) ((port_equal.ghosts).eq v.port w.port) h)

pub one_way_port : (v w : SchemePort) → way_eq v w ≡ true → way_port v ≡ way_port w
one_way_port v w h =
    ap port_of (one_port v.port w.port (second (option_eq bytes_eq v.scheme.now w.scheme.now) ((port_equal.ghosts).eq v.port w.port) h))

one_kind : (a b : PathKind) → (kind_equal.ghosts).eq a b ≡ true → a ≡ b
one_kind PathKind.Absent PathKind.Absent h = refl
one_kind PathKind.Exact PathKind.Exact h = refl
one_kind PathKind.Prefix PathKind.Prefix h = refl
one_kind a b h = absurd (false≢true h)

pub one_target : (a b : Target) → target_eq a b ≡ true
    → (a.text.now ≡ b.text.now) × (a.kind ≡ b.kind) × (way_eq a.way b.way ≡ true)
one_target a b h =
    let texts = bytes_eq a.text.now b.text.now in
    let kinds = (kind_equal.ghosts).eq a.kind b.kind in
    let ways = way_eq a.way b.way in
    let rest = second texts (kinds && ways) h in (
      (bytes_eq-Decides a.text.now b.text.now).0 (first texts (kinds && ways) h),
      one_kind a.kind b.kind (first kinds ways rest),
      second kinds ways rest,
    )

-- equal entries have equal parts
pub one_entry : (a b : Entry) → (host_eq a.0 b.0 && target_eq a.1 b.1) ≡ true → entry_parts a ≡ entry_parts b
one_entry a b h =
    let hosts = one_host a.0 b.0 (first (host_eq a.0 b.0) (target_eq a.1 b.1) h) in
    let target = one_target a.1 b.1 (second (host_eq a.0 b.0) (target_eq a.1 b.1) h) in
    let schemes = one_scheme a.1.way b.1.way target.2 in
    let ports = one_way_port a.1.way b.1.way target.2 in
    let pieces = ap front_pieces target.0 in
    let kinds = target.1 in
    cc
