-- In the order of names the atoms on one part of a check stand together.
use Rattle.std.proofs.Common.{◌≡◌, ◌≢◌, ◌∙◌, refl, sym, ap, ap₂, subst, arith, ℕ, ◌<◌, ◌≤◌, false}
use Rattle.std.specs.Prelude.{if◌then◌else◌, ◌==◌}
use Rattle.std.specs.Cmp.{ranks, tied_itself, nat_cmp_total}
use Rattle.std.specs.Ordering.{nat_cmp, ordering_then, is_gt, MatchOrdering}
use Rattle.std.specs.declared.cmp.Ordering.{Ordering}
use Rattle.std.specs.declared.cmp.Ordering.TheVariants.{Less, Equal, Greater}
use Rattle.csp_model.specs.declared.check.CheckPart.{CheckPart}
use Rattle.csp_model.specs.declared.check.CheckPart.TheVariants as part
use Rattle.csp_model.specs.declared.source.Algorithm.TheVariants.{Sha256, Sha384, Sha512}
use Rattle.csp_facts.specs.Atoms.{part_of}
use Rattle.csp_facts.specs.declared.atom.Atom.{Atom}
use Rattle.csp_branch.specs.Order.{part_number, number_of, content_cmp, name_cmp}
use Rattle.csp_branch.proofs.NameOrder.{then_level}

-- A part is told by its number

abbrev part_at : ℕ → CheckPart
part_at n =
    if n == 0 then part.Host else if n == 1 then part.Path else if n == 2 then part.Port else if n == 3 then part.PlainScheme
    else if n == 4 then part.Nonce else if n == 5 then part.Integrity else if n == 6 then part.Digest Sha256
    else if n == 7 then part.Digest Sha384 else part.Digest Sha512

back : (p : CheckPart) → part_at (part_number p) ≡ p
back part.Host = refl
back part.Path = refl
back part.Port = refl
back part.PlainScheme = refl
back part.Nonce = refl
back part.Integrity = refl
back (part.Digest Sha256) = refl
back (part.Digest Sha384) = refl
back (part.Digest Sha512) = refl

pub same_part : (p q : CheckPart) → part_number p ≡ part_number q → p ≡ q
same_part p q e = sym (back p) ∙ ap part_at e ∙ back q

-- The part decides first

pub parts_first : (a b : Atom) → name_cmp a b ≡ ordering_then (nat_cmp (number_of a) (number_of b)) (content_cmp a b)
parts_first a b = ap (λ (o : Ordering). ordering_then o (content_cmp a b)) (then_level (nat_cmp (number_of a) (number_of b)))

pub within_part : (a b : Atom) → part_of a ≡ part_of b → name_cmp a b ≡ content_cmp a b
within_part a b e =
    parts_first a b
    ∙ ap (λ (n : ℕ). ordering_then (nat_cmp (number_of a) n) (content_cmp a b)) (sym (ap part_number e))
    ∙ ap (λ (o : Ordering). ordering_then o (content_cmp a b)) (tied_itself nat_cmp_total (number_of a))

pub other_part : (a b : Atom) → (number_of a ≢ number_of b) → nat_cmp (number_of a) (number_of b) ≡ name_cmp a b
other_part a b apart = by (nat_cmp (number_of a) (number_of b)) (content_cmp a b) refl ∙ sym (parts_first a b)
  where
    by : (o s : Ordering) → nat_cmp (number_of a) (number_of b) ≡ o → o ≡ ordering_then o s
    by Less s e = refl
    by Equal s e = absurd (apart (subst (λ (o : Ordering). MatchOrdering o (number_of a < number_of b) (number_of a ≡ number_of b) (number_of b < number_of a)) e (ranks (number_of a) (number_of b))))
    by Greater s e = refl

rise_by : (m n : ℕ) (o s : Ordering) → nat_cmp m n ≡ o → is_gt (ordering_then o s) ≡ false → m ≤ n
rise_by m n Less s e h = let r : m < n = subst (λ (o : Ordering). MatchOrdering o (m < n) (m ≡ n) (n < m)) e (ranks m n) in omega arith
rise_by m n Equal s e h = let r : m ≡ n = subst (λ (o : Ordering). MatchOrdering o (m < n) (m ≡ n) (n < m)) e (ranks m n) in omega arith
rise_by m n Greater s e h = cc

pub parts_rise : (a b : Atom) → is_gt (name_cmp a b) ≡ false → number_of a ≤ number_of b
parts_rise a b h =
    rise_by (number_of a) (number_of b) (nat_cmp (number_of a) (number_of b)) (content_cmp a b) refl (sym (ap is_gt (parts_first a b)) ∙ h)

pub stand_together : (a b c : Atom) → part_of a ≡ part_of c → is_gt (name_cmp a b) ≡ false → is_gt (name_cmp b c) ≡ false → part_of a ≡ part_of b
stand_together a b c e low high =
    let first = parts_rise a b low in
    let second = parts_rise b c high in
    let same : number_of a ≡ number_of c = ap part_number e in
    same_part (part_of a) (part_of b) (omega (arith, first, second, same))

-- by numbers that were found of the two parts
pub one_part : (a b : Atom) (p q : CheckPart) (m n : ℕ) → p ≡ part_of a → q ≡ part_of b → m ≡ part_number p → n ≡ part_number q → m ≡ n → part_of a ≡ part_of b
one_part a b p q m n e f g h same = same_part (part_of a) (part_of b) (sym (g ∙ ap part_number e) ∙ same ∙ h ∙ ap part_number f)

pub apart_by : (a b : Atom) (p q : CheckPart) (m n : ℕ) (r : Ordering) → p ≡ part_of a → q ≡ part_of b → m ≡ part_number p → n ≡ part_number q → (m ≢ n) → r ≡ nat_cmp m n
    → r ≡ name_cmp a b
apart_by a b p q m n r e f g h apart is =
    let first : m ≡ number_of a = g ∙ ap part_number e in
    let second : n ≡ number_of b = h ∙ ap part_number f in
    is ∙ ap₂ nat_cmp first second ∙ other_part a b (λ same. apart (first ∙ same ∙ sym second))
