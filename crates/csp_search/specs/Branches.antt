-- The branches of a search, each by the literals that lead to it.
use Rattle.std.specs.Prelude.{◌≡◌, ℕ, ◌+◌, ◌≤◌, Bool, List, [], ◌∷◌, ◌++◌, length, Option, Some, None, All, Contains, ⊤}
use Rattle.csp_model.specs.declared.check.Check.{Check}
use Rattle.csp_model.specs.declared.source.Hash.{Hash}
use Rattle.csp_facts.specs.Follows.{decided}
use Rattle.csp_facts.specs.declared.atom.Atom.{Atom}
use Rattle.csp_facts.specs.declared.atom.Literal.{Literal}
use Rattle.csp_cell.specs.Cells.{Meets, Region}
use Rattle.csp_facts.specs.declared.shape.Shape.{Shape}

-- how many of the atoms are open
abbrev pub is_open : Option Bool → ℕ
is_open None = 1
is_open (Some value) = 0

abbrev pub open_atoms : List Literal → List Atom → ℕ
open_atoms literals [] = 0
open_atoms literals (atom ∷ atoms) = is_open (decided literals atom) + open_atoms literals atoms

-- each literal is on an atom that those before it leave open
abbrev pub IsFresh : List Literal → List Literal → Type 0
IsFresh before [] = ⊤
IsFresh before (l ∷ ls) = (decided before l.atom ≡ None) × IsFresh (before ++ l ∷ []) ls

-- a branch that splits by these of the atoms that have names led to
pub record IsBranch (names asked : List Atom) (literals : List Literal) : Type 0 where
  pub fresh : IsFresh [] literals
  pub among : All (λ (l : Literal). Contains asked l.atom) literals
  pub room : open_atoms literals names + length literals ≤ length names

-- the cell of the checks of the shape of which these literals are true
pub record IsCellOf (kind : Shape) (literals : List Literal) (cell : Region) : Type 0 where
  pub shape : cell.shape ≡ kind
  pub decides : (atom : Atom) → decided cell.literals atom ≡ decided literals atom
  pub meets : (hashes : List Hash) (asked : Check)
      → Meets hashes asked cell.literals → Meets hashes asked literals
  pub each : All (Contains literals) cell.literals
