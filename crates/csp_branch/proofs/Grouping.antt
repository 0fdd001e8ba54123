-- Groups of names: what a literal says of an atom in its group, and that it says nothing of another.
use Rattle.std.proofs.Common.{◌≡◌, ◌≢◌, ◌∙◌, refl, sym, ap, ap₂, subst, ℕ, ◌<◌, ◌+◌, ◌⊎◌, inl, inr, Bool, true, false, nat_lt, nat_eq, List, length, get_or, None, arith}
use Rattle.std.proofs.lemmas.Bool.Decides.{nat_tests}
use Rattle.std.proofs.lemmas.List.{get_or_default}
use Rattle.csp_model.specs.declared.check.CheckPart.{CheckPart}
use Rattle.csp_model.specs.declared.check.CheckPart.TheVariants as part
use Rattle.csp_model.specs.declared.source.Algorithm.TheVariants.{Sha256, Sha384, Sha512}
use Rattle.csp_facts.specs.Atoms.{part_of}
use Rattle.csp_facts.specs.Follows.{follows, follows_true, true_where, false_where, nested}
use Rattle.csp_facts.specs.declared.atom.Atom.{Atom}
use Rattle.csp_facts.specs.declared.atom.Atom.TheVariants.{HostDomain, IntegrityHas, IntegrityOutside}
use Rattle.csp_branch.specs.Around.{is_around}
use Rattle.csp_branch.specs.Numbers.{AreInOrder, around_in}
use Rattle.csp_branch.specs.Order.{part_number}
use Rattle.csp_branch.proofs.Forest.{around_in_there, nothing_inside, nothing_outside, one_name}
use Rattle.csp_branch.proofs.NameOrder.{itself, IsFlat, flat_alone}
use Rattle.csp_branch.proofs.Nesting.{around_same_part}
use Rattle.csp_branch.proofs.PartOrder.{same_part}
use Rattle.csp_branch.proofs.Rows.{rows, rows_of_pairs, rows_apart, row_of_denial}
use Rattle.csp_branch.specs.Branching.{says}
use Rattle.csp_branch.specs.Groups.{atom_in, group_in, group_on, groups_in}
use Rattle.csp_branch.specs.Paths.{literal_in}

never_both : (t : Bool) → t ≡ true → t ≡ false → ⊥
never_both t e f = cc

is_false : (t : Bool) → (t ≡ true → ⊥) → t ≡ false
is_false true h = absurd (h refl)
is_false false h = refl

-- Parts

pub below_nine : (p : CheckPart) → part_number p < 9
below_nine part.Host = omega arith
below_nine part.Path = omega arith
below_nine part.Port = omega arith
below_nine part.PlainScheme = omega arith
below_nine part.Nonce = omega arith
below_nine part.Integrity = omega arith
below_nine (part.Digest Sha256) = omega arith
below_nine (part.Digest Sha384) = omega arith
below_nine (part.Digest Sha512) = omega arith

is_integrity : (p : CheckPart) → (p ≡ part.Integrity) ⊎ (p ≢ part.Integrity)
is_integrity part.Host = inr (λ e. cc)
is_integrity part.Path = inr (λ e. cc)
is_integrity part.Port = inr (λ e. cc)
is_integrity part.PlainScheme = inr (λ e. cc)
is_integrity part.Nonce = inr (λ e. cc)
is_integrity part.Integrity = inl refl
is_integrity (part.Digest a) = inr (λ e. cc)

pub other_number : (p : CheckPart) (name : ℕ) → (p ≢ part.Integrity) → group_on p name ≡ part_number p
other_number part.Host name other = refl
other_number part.Path name other = refl
other_number part.Port name other = refl
other_number part.PlainScheme name other = refl
other_number part.Nonce name other = refl
other_number part.Integrity name other = absurd (other refl)
other_number (part.Digest a) name other = refl

-- a part of the group's number is the name's own
pub part_in_group : (p q : CheckPart) (name : ℕ) → group_on p name ≡ part_number q → p ≡ q
part_in_group p q name same = elim (is_integrity p) [
  | inl e ↦
      let low = below_nine q in
      let pair : 9 + name ≡ part_number q = ap (λ (r : CheckPart). group_on r name) (sym e) ∙ same in
      absurd (omega (arith, low, pair))
  | inr other ↦ same_part p q (sym (other_number p name other) ∙ same)
]

pub inside : (p : CheckPart) (name count : ℕ) → name < count → group_on p name < 9 + count
inside p name count h = elim (is_integrity p) [
  | inl e ↦ subst (λ (q : CheckPart). group_on q name < 9 + count) (sym e) (omega arith)
  | inr other ↦ let low = below_nine p in let same = other_number p name other in omega (arith, low, same)
]

pub group_inside : (atoms : List Atom) (name : ℕ) → name < length atoms → group_in atoms name < groups_in atoms
group_inside atoms name h = inside (part_of (atom_in atoms name)) name (length atoms) h

-- a pair of integrity metadata is around itself alone
flat_pair : (a : Atom) → part_of a ≡ part.Integrity → IsFlat a
flat_pair (IntegrityHas h) e = tt
flat_pair IntegrityOutside e = tt
flat_pair a e = cc

-- groups of two atoms, which are the names' own if these are pairs
same_group_by : (p q : CheckPart) (a b : ℕ) → group_on p a ≡ group_on q b
    → ((p ≡ part.Integrity) × (a ≡ b)) ⊎ ((p ≡ q) × (p ≢ part.Integrity))
same_group_by p q a b same = elim (is_integrity p) [
  | inl e ↦ elim (is_integrity q) [
    | inl f ↦ inl (e, (let one : 9 + a ≡ 9 + b = ap (λ (r : CheckPart). group_on r a) (sym e) ∙ same ∙ ap (λ (r : CheckPart). group_on r b) f in omega arith))
    | inr f ↦
        let low = below_nine q in
        let one : 9 + a ≡ part_number q = ap (λ (r : CheckPart). group_on r a) (sym e) ∙ same ∙ other_number q b f in
        absurd (omega (arith, low, one))
  ]
  | inr e ↦ elim (is_integrity q) [
    | inl f ↦
        let low = below_nine p in
        let one : part_number p ≡ 9 + b = sym (other_number p a e) ∙ same ∙ ap (λ (r : CheckPart). group_on r b) f in
        absurd (omega (arith, low, one))
    | inr f ↦ inr (same_part p q (sym (other_number p a e) ∙ same ∙ other_number q b f), e)
  ]
]

module _ (atoms : List Atom) (order : AreInOrder atoms) (a b : ℕ) where
  abbrev x : Atom
  x = atom_in atoms a

  abbrev y : Atom
  y = atom_in atoms b

  -- what is around a name is in its group
  around_one_group_there : a < length atoms → b < length atoms → around_in atoms a b ≡ true → group_in atoms a ≡ group_in atoms b
  around_one_group_there h k on = elim (is_integrity (part_of x)) [
    | inl e ↦
        let one : a ≡ b = one_name atoms a b HostDomain order h k (sym (flat_alone x y (flat_pair x e) inner)) in
        ap (group_in atoms) one
    | inr e ↦ other_number (part_of x) a e ∙ ap part_number same ∙ sym (other_number (part_of y) b (λ f. e (same ∙ f)))
  ]
    where
      inner : is_around x y ≡ true
      inner = sym (around_in_there atoms a b HostDomain h k) ∙ on

      same : part_of x ≡ part_of y
      same = around_same_part x y inner

  pub around_one_group : around_in atoms a b ≡ true → group_in atoms a ≡ group_in atoms b
  around_one_group on = by (nat_lt a (length atoms)) (nat_lt b (length atoms)) refl refl
    where
      by : (s t : Bool) → nat_lt a (length atoms) ≡ s → nat_lt b (length atoms) ≡ t → group_in atoms a ≡ group_in atoms b
      by false t e f = absurd (never_both (around_in atoms a b) on (nothing_outside atoms a b (grind (arith, nat_tests))))
      by true false e f = absurd (never_both (around_in atoms a b) on (nothing_inside atoms a b (grind (arith, nat_tests))))
      by true true e f = around_one_group_there (grind (arith, nat_tests)) (grind (arith, nat_tests)) on

  pub apart : (group_in atoms a ≢ group_in atoms b) → around_in atoms a b ≡ false
  apart other = is_false (around_in atoms a b) (λ on. other (around_one_group on))

  -- what one says of the other

  same_true : a < length atoms → b < length atoms → group_in atoms a ≡ group_in atoms b → follows_true x y ≡ nested (is_around y x) (is_around x y)
  same_true h k same = elim (same_group_by (part_of x) (part_of y) a b same) [
    | inl (e, one) ↦
        let here : y ≡ x = ap (atom_in atoms) (sym one) in
        subst (λ (z : Atom). follows_true x z ≡ nested (is_around z x) (is_around x z)) (sym here) (pair_itself e)
    | inr (one, e) ↦ rows x y one e
  ]
    where
      pair_itself : part_of x ≡ part.Integrity → follows_true x x ≡ nested (is_around x x) (is_around x x)
      pair_itself e = rows_of_pairs x x e ∙ ap true_where (itself x) ∙ sym (ap (λ (t : Bool). nested t (is_around x x)) (itself x))

module _ (atoms : List Atom) (order : AreInOrder atoms) (a b : ℕ) (h : a < length atoms) (k : b < length atoms) where
  other_true : (group_in atoms a ≢ group_in atoms b) → follows_true (atom_in atoms a) (atom_in atoms b) ≡ None
  other_true other = by (nat_eq (part_number (part_of (atom_in atoms a))) (part_number (part_of (atom_in atoms b)))) refl
    where
      off : is_around (atom_in atoms b) (atom_in atoms a) ≡ false
      off = sym (around_in_there atoms b a HostDomain k h) ∙ apart atoms order b a (λ e. other (sym e))

      by : (t : Bool) → nat_eq (part_number (part_of (atom_in atoms a))) (part_number (part_of (atom_in atoms b))) ≡ t → follows_true (atom_in atoms a) (atom_in atoms b) ≡ None
      by false e = rows_apart (atom_in atoms a) (atom_in atoms b) (λ same.
          let numbers : part_number (part_of (atom_in atoms a)) ≡ part_number (part_of (atom_in atoms b)) = ap part_number same in
          absurd (grind (arith, nat_tests)))
      by true e =
          let numbers : part_number (part_of (atom_in atoms a)) ≡ part_number (part_of (atom_in atoms b)) = grind (arith, nat_tests) in
          let same = same_part (part_of (atom_in atoms a)) (part_of (atom_in atoms b)) numbers in
          elim (is_integrity (part_of (atom_in atoms a))) [
            | inl f ↦ rows_of_pairs (atom_in atoms a) (atom_in atoms b) f ∙ ap true_where off
            | inr f ↦ absurd (other (other_number (part_of (atom_in atoms a)) a f ∙ numbers ∙ sym (other_number (part_of (atom_in atoms b)) b (λ g. f (same ∙ g)))))
          ]

  pub said_in_group : (positive : Bool) → group_in atoms a ≡ group_in atoms b
      → follows (literal_in atoms a positive) (atom_in atoms b) ≡ says (around_in atoms) a positive b
  said_in_group true same =
      same_true atoms order a b h k same ∙ sym (ap₂ nested (around_in_there atoms b a HostDomain k h) (around_in_there atoms a b HostDomain h k))
  said_in_group false same = row_of_denial (atom_in atoms a) (atom_in atoms b) ∙ sym (ap false_where (around_in_there atoms a b HostDomain h k))

  pub said_elsewhere : (positive : Bool) → (group_in atoms a ≢ group_in atoms b) → follows (literal_in atoms a positive) (atom_in atoms b) ≡ None
  said_elsewhere true other = other_true other
  said_elsewhere false other =
      row_of_denial (atom_in atoms a) (atom_in atoms b)
      ∙ ap false_where (sym (around_in_there atoms a b HostDomain h k) ∙ apart atoms order a b other)

  -- at any default
  pub said_same : (positive : Bool) (d : Atom) → group_in atoms a ≡ group_in atoms b
      → follows (literal_in atoms a positive) (get_or atoms b d) ≡ says (around_in atoms) a positive b
  said_same positive d same = ap (follows (literal_in atoms a positive)) (get_or_default atoms b d HostDomain k) ∙ said_in_group positive same

  pub said_other : (positive : Bool) (d : Atom) → (group_in atoms a ≢ group_in atoms b) → follows (literal_in atoms a positive) (get_or atoms b d) ≡ None
  said_other positive d other = ap (follows (literal_in atoms a positive)) (get_or_default atoms b d HostDomain k) ∙ said_elsewhere positive other
