-- What is left of a formula where literals decide some of its atoms.
use Rattle.std.specs.Prelude.{◌≡◌, Bool, true, false, not, List, [], ◌∷◌, Option, Some, None, Contains, IsSome, IsTrue, All, ◌⊎◌}
use Rattle.std.specs.List.{list_all}
use Rattle.csp_facts.specs.Follows.{decided}
use Rattle.csp_facts.specs.declared.atom.Atom.{Atom}
use Rattle.csp_facts.specs.declared.atom.Literal.{Literal}
use Rattle.csp_formula.specs.Sentences.{Sentence, Known, Fact, Not, Both, Either, all_of, any_of}
use Rattle.csp_formulas.specs.Formulas.{sentence_of}
use Rattle.csp_formula.specs.Surely.{maybe_not, maybe_and, maybe_or, surely}
use Rattle.csp_formula.specs.Values.{atoms_in}
use Rattle.csp_formulas.specs.declared.formula.Formula.{Formula}
use Rattle.csp_formulas.specs.declared.formula.Formula.TheOpen.{Formula-F}
use Rattle.csp_formulas.specs.declared.formula.Formula.TheFolds.{fold-Formula}
use Rattle.csp_formulas.specs.declared.formula.Formula.TheVariants.{Constant}

-- some, and each of them
abbrev pub some_all : List Bool → Bool
some_all [] = false
some_all (test ∷ tests) = list_all (λ t. t) (test ∷ tests)

abbrev pub no_constant_step : Formula-F Bool → Bool
no_constant_step (Formula-F.Constant b) = false
no_constant_step (Formula-F.Fact a) = true
no_constant_step (Formula-F.Not x) = x.value
no_constant_step (Formula-F.Every xs) = some_all xs.items
no_constant_step (Formula-F.OneOf xs) = some_all xs.items

-- no constant stands in the formula, nor the and or the or of nothing, which is one
abbrev pub has_no_constant : Formula → Bool
has_no_constant = fold-Formula Bool no_constant_step

-- the values are those that are known of these atoms, where one is known
abbrev pub KeepsValues : (Atom → Option Bool) → (Atom → Option Bool) → List Atom → Type 0
KeepsValues known values atoms =
    (atom : Atom) → Contains atoms atom → IsSome (known atom) → values atom ≡ known atom

-- the value of a sentence where some atoms have values
abbrev pub value_under : (Atom → Option Bool) → Sentence → Option Bool
value_under values (Known b) = Some b
value_under values (Fact atom) = values atom
value_under values (Not x) = maybe_not (value_under values x)
value_under values (Both x y) = maybe_and (value_under values x) (value_under values y)
value_under values (Either x y) = maybe_or (value_under values x) (value_under values y)

-- the and of the sentences, or the or
abbrev pub joined_by : Bool → List Sentence → Sentence
joined_by true parts = all_of parts
joined_by false parts = any_of parts

-- the literals decide nothing of the formula, in which no constant stands
pub record IsUnsure (literals : List Literal) (formula : Formula) : Type 0 where
  pub open_ended : IsTrue (has_no_constant formula)
  pub undecided : All (λ (atom : Atom). decided literals atom ≡ None) (atoms_in (sentence_of formula))
  pub unsure : surely literals (sentence_of formula) ≡ None

-- the formula is what the literals leave of the sentence
pub record IsLeft (literals : List Literal) (said : Sentence) (left : Formula) : Type 0 where
  pub same : (values : Atom → Option Bool) → KeepsValues (decided literals) values (atoms_in said)
      → value_under values (sentence_of left) ≡ value_under values said
  pub atoms : (atom : Atom) → Contains (atoms_in (sentence_of left)) atom → Contains (atoms_in said) atom
  pub form : ((known : Bool) × (left ≡ Constant known)) ⊎ IsUnsure literals left

-- the formula denies another
pub record IsDenied (old new : Formula) : Type 0 where
  pub constant : (known : Bool) → old ≡ Constant known → new ≡ Constant (not known)
  pub says : (values : Atom → Option Bool)
      → value_under values (sentence_of new) ≡ maybe_not (value_under values (sentence_of old))
  pub atoms : atoms_in (sentence_of new) ≡ atoms_in (sentence_of old)
  pub open_ended : IsTrue (has_no_constant old) → IsTrue (has_no_constant new)
