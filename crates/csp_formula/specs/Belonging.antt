-- Which atoms may stand in what a policy says of a shape.
use Rattle.std.specs.Prelude.{List, All, IsTrue}
use Rattle.csp_model.specs.Grammar.{is_base64_value}
use Rattle.csp_model.specs.declared.source.Hash.{Hash}
use Rattle.csp_facts.specs.Atoms.{BelongsTo, IsValidAtom}
use Rattle.csp_facts.specs.Vocabulary.{IsOfVocabulary}
use Rattle.csp_facts.specs.declared.atom.Atom.{Atom}
use Rattle.csp_facts.specs.Shapes.{looks_at}
use Rattle.csp_facts.specs.declared.shape.Shape.{Shape}

-- each value of the vocabulary is a base64-value
abbrev pub HasBase64Values : List Hash → Type 0
HasBase64Values hashes = All (λ (h : Hash). IsTrue (is_base64_value h.value)) hashes

-- the atom is on a part that the shape looks at; it is valid, as the vocabulary's values are; and it is of
-- the vocabulary
pub record IsAtomAt (kind : Shape) (hashes : List Hash) (atom : Atom) : Type 0 where
  pub belongs : BelongsTo (looks_at kind) atom
  pub valid : HasBase64Values hashes → IsValidAtom atom
  pub known : IsOfVocabulary hashes atom
