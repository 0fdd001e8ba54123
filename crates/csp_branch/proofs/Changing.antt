-- The changes of a path's literals, one behind another.
use Rattle.std.proofs.Common.{◌≡◌, ◌∙◌, refl, sym, ap, subst, ℕ, ◌≤◌, ◌<◌, ◌+◌, Bool, true, false, nat_lt, List, [], ◌∷◌, ◌++◌, length, get_or, arith}
use Rattle.std.proofs.lemmas.Bool.Decides.{nat_tests}
use Rattle.std.proofs.lemmas.List.{get_or_append_left, get_or_push, length_push, take-append-le, take_all}
use Rattle.std.proofs.lemmas.List.Elements.{All-contains, Contains-push}
use Rattle.csp_facts.specs.declared.atom.Atom.{Atom}
use Rattle.csp_facts.specs.declared.atom.Literal.{Literal}
use Rattle.csp_branch.specs.Changes.{AreChanges, IsLast, first_of}
use Rattle.csp_branch.specs.Paths.{Path}
use Rattle.csp_branch.specs.declared.branch.Change.{Change}
use Rattle.csp_branch.specs.declared.named_literal.NamedLiteral.{NamedLiteral}

abbrev longer : Path → Literal → Path
longer path literal = record path { literals = path.literals ++ literal ∷ [] }

same_first : (path : Path) (literal : Literal) (n : ℕ) → n ≤ length path.literals → first_of n (longer path literal) ≡ first_of n path
same_first path literal n h = ap (λ (ls : List Literal). record path { literals = ls }) (take-append-le n path.literals (literal ∷ []) h)

whole : (path : Path) (n : ℕ) → length path.literals ≤ n → first_of n path ≡ path
whole path n h = ap (λ (ls : List Literal). record path { literals = ls }) (take_all n path.literals h)

pub changes_root : (atoms : List Atom) → AreChanges [] (record { atoms = atoms; literals = [] })
changes_root atoms = record { long = refl; each = λ i d h. absurd (omega (arith, h)) }

pub changes_more : (changes : List Change) (change : Change) (path : Path) (literal : Literal) → AreChanges changes path → IsLast change (longer path literal)
    → AreChanges (changes ++ change ∷ []) (longer path literal)
changes_more changes change path literal are last = record {
  long = length_push changes change ∙ ap (λ (n : ℕ). n + 1) are.long ∙ sym (length_push path.literals literal);
  each = λ i d h. by i d (nat_lt i (length changes)) refl (subst (λ (n : ℕ). i < n) (length_push changes change) h);
}
  where
    by : (i : ℕ) (d : Change) (t : Bool) → nat_lt i (length changes) ≡ t → i < length changes + 1
        → IsLast (get_or (changes ++ change ∷ []) i d) (first_of (i + 1) (longer path literal))
    by i d true e h =
        let low : i < length changes = grind (arith, nat_tests) in
        let long = are.long in
        subst (λ (p : Path). IsLast (get_or (changes ++ change ∷ []) i d) p) (sym (same_first path literal (i + 1) (omega (arith, low, long))))
        (subst (λ (c : Change). IsLast c (first_of (i + 1) path)) (sym (get_or_append_left changes (change ∷ []) d i low)) (are.each i d low))
    by i d false e h =
        let same : length changes ≡ i = grind (arith, nat_tests, h) in
        let long = are.long in
        let pushed = length_push path.literals literal in
        subst (λ (p : Path). IsLast (get_or (changes ++ change ∷ []) i d) p) (sym (whole (longer path literal) (i + 1) (omega (arith, same, long, pushed))))
        (subst (λ (c : Change). IsLast c (longer path literal)) (sym (get_or_push changes change d i same)) last)

pub changes_last : (changes : List Change) (change : Change) (path : Path) → AreChanges (changes ++ change ∷ []) path → IsLast change path
changes_last changes change path are =
    let long = are.long in
    let pushed = length_push changes change in
    subst (λ (p : Path). IsLast change p) (whole path (length changes + 1) (omega (arith, long, pushed)))
    (subst (λ (c : Change). IsLast c (first_of (length changes + 1) path)) (get_or_push changes change change (length changes) refl)
    (are.each (length changes) change (omega (arith, pushed))))

pub last_named : (change : Change) (path : Path) → IsLast change path → change.step.name < length path.atoms
last_named change path last =
    All-contains (λ (s : NamedLiteral). s.name < length path.atoms) (last.before ++ change.step ∷ []) change.step last.named (Contains-push last.before change.step)

pub changes_less : (changes : List Change) (change : Change) (path : Path) (literal : Literal) → AreChanges (changes ++ change ∷ []) (longer path literal) → AreChanges changes path
changes_less changes change path literal are = record {
  long =
      let long = are.long in
      let one = length_push changes change in
      let other = length_push path.literals literal in
      omega (arith, long, one, other);
  each = λ i d h.
      let long = are.long in
      let one = length_push changes change in
      let other = length_push path.literals literal in
      subst (λ (p : Path). IsLast (get_or changes i d) p) (same_first path literal (i + 1) (omega (arith, h, long, one, other)))
      (subst (λ (c : Change). IsLast c (first_of (i + 1) (longer path literal))) (get_or_append_left changes (change ∷ []) d i h) (are.each i d (omega (arith, h, one))));
}
