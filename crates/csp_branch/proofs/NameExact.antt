-- In the order of names equal atoms alone are level.
use Rattle.std.proofs.Common.{◌≡◌, ◌∙◌, refl, sym, ap, subst, true, Decides, ℕ, ◌<◌, List, [], ◌∷◌, reverse, arith}
use Rattle.std.specs.Ordering.{nat_cmp, ordering_then, is_eq}
use Rattle.std.specs.Cmp.{tied_itself}
use Rattle.std.specs.declared.cmp.Ordering.{Ordering}
use Rattle.std.specs.declared.cmp.Ordering.TheVariants.{Less, Equal, Greater}
use Rattle.std.proofs.lemmas.List.{reverse-reverse}
use Rattle.std.proofs.lemmas.Map.Lookups.{exact_bytes, exact_unsigned}
use Rattle.csp_model.specs.declared.url.Host.TheVariants.{Domain, Address}
use Rattle.csp_facts.specs.declared.atom.Atom.{Atom}
use Rattle.csp_facts.specs.declared.atom.Atom.TheVariants.{HostIs, HostUnder, HostDomain, PathIs, PathUnder}
use Rattle.csp_facts.specs.Atoms.{part_of}
use Rattle.csp_facts.proofs.SameAtom.{same_atom, equal_is}
use Rattle.csp_branch.specs.Order.{text_cmp, number_of, content_cmp, name_cmp}
use Rattle.csp_branch.proofs.NameOrder.{name_total, then_level, front_cmp}
use Rattle.csp_branch.proofs.PartOrder.{same_part, parts_first}

unreversed : (n : ℕ) (x y : List ℕ) → ordering_then (text_cmp (n ∷ reverse x) (n ∷ reverse y)) Equal ≡ Equal → x ≡ y
unreversed n x y e =
    let same = exact_bytes (n ∷ reverse x) (n ∷ reverse y) (sym (then_level (text_cmp (n ∷ reverse x) (n ∷ reverse y))) ∙ e) in
    let tails : reverse x ≡ reverse y = cc in
    sym (reverse-reverse x) ∙ ap reverse tails ∙ reverse-reverse y

marks : {P : Type 0} (m n : ℕ) (x y : List ℕ) → m < n → m ∷ x ≡ n ∷ y → P
marks m n x y below e = let first : m ≡ n = cc in absurd (omega arith)

never_less : {P : Type 0} (o : Ordering) → ordering_then o Less ≡ Equal → P
never_less Less e = cc
never_less Equal e = cc
never_less Greater e = cc

never_greater : {P : Type 0} (o : Ordering) → ordering_then o Greater ≡ Equal → P
never_greater Less e = cc
never_greater Equal e = cc
never_greater Greater e = cc

tail_of : (n : ℕ) (x y : List ℕ) → n ∷ x ≡ n ∷ y → x ≡ y
tail_of n x y e = cc

content_exact : (a b : Atom) → part_of a ≡ part_of b → content_cmp a b ≡ Equal → a ≡ b
content_exact (HostIs (Domain d)) (HostIs (Domain e)) part h = ap (λ x. HostIs (Domain x)) (tail_of 0 d e (unreversed 1 (0 ∷ d) (0 ∷ e) h))
content_exact (HostIs (Address d)) (HostIs (Address e)) part h = ap (λ x. HostIs (Address x)) (tail_of 0 d e (unreversed 0 (0 ∷ d) (0 ∷ e) h))
content_exact (HostUnder d) (HostUnder e) part h = ap HostUnder (tail_of 46 d e (unreversed 1 (46 ∷ d) (46 ∷ e) h))
content_exact (HostIs (Domain d)) (HostUnder e) part h = marks 0 46 d e (omega arith) (unreversed 1 (0 ∷ d) (46 ∷ e) h)
content_exact (HostUnder d) (HostIs (Domain e)) part h = marks 0 46 e d (omega arith) (sym (unreversed 1 (46 ∷ d) (0 ∷ e) h))
content_exact HostDomain HostDomain part h = refl
content_exact HostDomain (HostIs (Domain e)) part h = let none = unreversed 1 [] (0 ∷ e) h in cc
content_exact HostDomain (HostUnder e) part h = let none = unreversed 1 [] (46 ∷ e) h in cc
content_exact (HostIs (Domain e)) HostDomain part h = let none = unreversed 1 (0 ∷ e) [] h in cc
content_exact (HostUnder e) HostDomain part h = let none = unreversed 1 (46 ∷ e) [] h in cc
content_exact (PathIs p) (PathIs q) part h = same_atom (PathIs p) (PathIs q) h
content_exact (PathUnder p) (PathUnder q) part h = same_atom (PathUnder p) (PathUnder q) h
content_exact (PathIs p) (PathUnder q) part h = never_less (front_cmp p q) h
content_exact (PathUnder p) (PathIs q) part h = never_greater (front_cmp p q) h
content_exact (HostIs (Domain d)) b part h = cc
content_exact (HostIs (Address d)) b part h = cc
content_exact (HostUnder s) b part h = cc
content_exact HostDomain b part h = cc
content_exact (PathIs p) b part h = cc
content_exact (PathUnder p) b part h = cc
content_exact a (HostIs (Domain d)) part h = cc
content_exact a (HostIs (Address d)) part h = cc
content_exact a (HostUnder s) part h = cc
content_exact a HostDomain part h = cc
content_exact a (PathIs p) part h = cc
content_exact a (PathUnder p) part h = cc
content_exact a b part h = same_atom a b h

both_equal : (o s : Ordering) → ordering_then o s ≡ Equal → (o ≡ Equal) × (s ≡ Equal)
both_equal Less s e = cc
both_equal Equal s e = (refl, e)
both_equal Greater s e = cc

pub name_exact : (a b : Atom) → name_cmp a b ≡ Equal → a ≡ b
name_exact a b h =
    let both = both_equal (nat_cmp (number_of a) (number_of b)) (content_cmp a b) (sym (parts_first a b) ∙ h) in
    content_exact a b (same_part (part_of a) (part_of b) (exact_unsigned (number_of a) (number_of b) both.0)) both.1

pub level_decides : (a b : Atom) → Decides (is_eq (name_cmp a b)) (a ≡ b)
level_decides a b = (
  (λ e. name_exact a b (equal_is (name_cmp a b) e)),
  (λ same. subst (λ (x : Atom). is_eq (name_cmp a x) ≡ true) same (ap is_eq (tied_itself name_total a))),
)
