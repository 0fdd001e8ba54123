-- What holds of the atoms of a sentence's parts holds of its atoms.
use Rattle.std.proofs.Common.{◌≡◌, Bool, true, false, List, [], ◌∷◌, Option, Some, None, All, IfSome, refl}
use Rattle.std.specs.Prelude.{if◌then◌else◌}
use Rattle.std.proofs.lemmas.List.Elements.{All-nil, All-cons, All-head, All-tail, All-append}
use Rattle.csp_model.specs.Governing.{Governor}
use Rattle.csp_facts.specs.declared.atom.Atom.{Atom}
use Rattle.csp_formula.specs.Sentences.{Sentence, Known, all_of, any_of}
use Rattle.csp_formula.specs.Compiled.{only_where, said_by}
use Rattle.csp_formula.specs.Values.{atoms_in}

module _ (P : Atom → Type 0) where
  abbrev pub Within : Sentence → Type 0
  Within s = All P (atoms_in s)

  pub all_within : (xs : List Sentence) → All Within xs → Within (all_of xs)
  all_within [] each = All-nil P
  all_within (x ∷ xs) each =
      All-append P (atoms_in x) (atoms_in (all_of xs)) (All-head Within x xs each) (all_within xs (All-tail Within x xs each))

  pub any_within : (xs : List Sentence) → All Within xs → Within (any_of xs)
  any_within [] each = All-nil P
  any_within (x ∷ xs) each =
      All-append P (atoms_in x) (atoms_in (any_of xs)) (All-head Within x xs each) (any_within xs (All-tail Within x xs each))

  pub one : (atom : Atom) → P atom → All P (atom ∷ [])
  one atom p = All-cons P atom [] p (All-nil P)

  pub two_parts : (x y : Sentence) → Within x → Within y → All Within (x ∷ y ∷ [])
  two_parts x y a b = All-cons Within x (y ∷ []) a (All-cons Within y [] b (All-nil Within))

  pub three_parts : (x y z : Sentence) → Within x → Within y → Within z → All Within (x ∷ y ∷ z ∷ [])
  three_parts x y z a b c = All-cons Within x (y ∷ z ∷ []) a (two_parts y z b c)

  pub if_within : (test : Bool) (x y : Sentence) → (test ≡ true → Within x) → (test ≡ false → Within y) → Within (if test then x else y)
  if_within true x y a b = a refl
  if_within false x y a b = b refl

  pub only_within : (test : Bool) (x : Sentence) → Within x → Within (only_where test x)
  only_within test x a = if_within test x (Known false) (λ _. a) (λ _. All-nil P)

  pub said_within : (o : Option Governor) (says : Governor → Sentence) → IfSome o (λ g. Within (says g)) → Within (said_by o says)
  said_within None says each = All-nil P
  said_within (Some g) says each = each
