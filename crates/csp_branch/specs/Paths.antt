-- The literals from the root of a tree to a node.
use Rattle.std.specs.Prelude.{ℕ, ◌<◌, Bool, List, All, length, map}
use Rattle.csp_facts.specs.declared.atom.Atom.{Atom}
use Rattle.csp_facts.specs.declared.atom.Literal.{Literal}
use Rattle.csp_branch.specs.Groups.{atom_in}
use Rattle.csp_branch.specs.declared.named_literal.NamedLiteral.{NamedLiteral}

-- the atoms in the order of their names, and the literals, the root's first
pub record Path : Type 0 where
  pub atoms : List Atom
  pub literals : List Literal

abbrev pub literal_in : List Atom → ℕ → Bool → Literal
literal_in atoms name positive = record { atom = atom_in atoms name; positive = positive }

abbrev pub literal_of : List Atom → NamedLiteral → Literal
literal_of atoms step = literal_in atoms step.name step.positive

abbrev pub path_of : List Atom → List NamedLiteral → Path
path_of atoms steps = record { atoms = atoms; literals = map (literal_of atoms) steps }

-- the names are there
abbrev pub AreNamed : List Atom → List NamedLiteral → Type 0
AreNamed atoms steps = All (λ step. step.name < length atoms) steps
