-- How the order of two atoms on one part is found: paths as their texts are, and level ones by what is said of them; else as atoms are in order.
use Rattle.std.proofs.Common.{◌≡◌, ◌≢◌, ◌∙◌, refl, sym, ap, ap₂, ℕ, List}
use Rattle.std.specs.Cmp.Lexicographic.{slice_cmp}
use Rattle.std.specs.Ordering.{ordering_then}
use Rattle.std.specs.declared.cmp.Ordering.{Ordering}
use Rattle.std.specs.declared.cmp.Ordering.TheVariants.{Less, Greater}
use Rattle.csp_model.specs.declared.check.CheckPart.TheVariants as part
use Rattle.csp_facts.specs.Atoms.{part_of}
use Rattle.csp_facts.specs.Kinds.{path_cmp}
use Rattle.csp_facts.specs.Order.{key, atom_cmp}
use Rattle.csp_facts.specs.declared.atom.Atom.{Atom}
use Rattle.csp_facts.specs.declared.atom.Atom.TheVariants.{HostIs, HostUnder, HostDomain, PortIs, PathIs, PathUnder, SchemeIs, NonceIs, IntegrityHas, IntegrityOutside, DigestIs}
use Rattle.csp_branch.proofs.NameOrder.{front_cmp}
use Rattle.csp_branch.specs.Order.{text_cmp, content_key, content_cmp}

other_key : (a : Atom) → (part_of a ≢ part.Host) → (part_of a ≢ part.Path) → content_key a ≡ key a
other_key (HostIs x) no_host no_path = absurd (no_host refl)
other_key (HostUnder x) no_host no_path = absurd (no_host refl)
other_key HostDomain no_host no_path = absurd (no_host refl)
other_key (PathIs x) no_host no_path = absurd (no_path refl)
other_key (PathUnder x) no_host no_path = absurd (no_path refl)
other_key (PortIs x) no_host no_path = refl
other_key (SchemeIs x) no_host no_path = refl
other_key (NonceIs x) no_host no_path = refl
other_key (IntegrityHas x) no_host no_path = refl
other_key IntegrityOutside no_host no_path = refl
other_key (DigestIs x) no_host no_path = refl

pub by_atoms : (a b : Atom) → part_of a ≡ part_of b → (part_of a ≢ part.Host) → (part_of a ≢ part.Path) → atom_cmp a b ≡ content_cmp a b
by_atoms a b e no_host no_path =
    ap₂ (slice_cmp text_cmp) (sym (other_key a no_host no_path)) (sym (other_key b (λ f. no_host (e ∙ f)) (λ f. no_path (e ∙ f))))

-- Paths

pub paths_level : (a b : Atom) (p q : List (List ℕ)) (r : Ordering) → a ≡ PathIs p → b ≡ PathIs q → r ≡ path_cmp p q → r ≡ content_cmp a b
paths_level a b p q r e f is = is ∙ ap₂ content_cmp (sym e) (sym f)

pub fronts_level : (a b : Atom) (p q : List (List ℕ)) (r : Ordering) → a ≡ PathUnder p → b ≡ PathUnder q → r ≡ path_cmp p q → r ≡ content_cmp a b
fronts_level a b p q r e f is = is ∙ ap₂ content_cmp (sym e) (sym f)

pub path_first : (a b : Atom) (p q : List (List ℕ)) (s r : Ordering) → a ≡ PathIs p → b ≡ PathUnder q → s ≡ front_cmp p q → r ≡ ordering_then s Less → r ≡ content_cmp a b
path_first a b p q s r e f was is = is ∙ ap (λ o. ordering_then o Less) was ∙ ap₂ content_cmp (sym e) (sym f)

pub front_last : (a b : Atom) (p q : List (List ℕ)) (s r : Ordering) → a ≡ PathUnder p → b ≡ PathIs q → s ≡ front_cmp p q → r ≡ ordering_then s Greater → r ≡ content_cmp a b
front_last a b p q s r e f was is = is ∙ ap (λ o. ordering_then o Greater) was ∙ ap₂ content_cmp (sym e) (sym f)
