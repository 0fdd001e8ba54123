-- A walk of a tree, from branch to branch.
use Rattle.std.specs.Prelude.{ℕ, Bool, true, false, List, [], ◌∷◌, ◌++◌}
use Rattle.csp_facts.specs.declared.atom.Atom.{Atom}
use Rattle.csp_facts.specs.declared.atom.Literal.{Literal}

-- where a walker stands: the atoms by whose names it takes literals, those that lead there, the root's first,
-- and how many it may take
pub record Position : Type 0 where
  pub atoms : List Atom
  pub literals : List Literal
  pub room : ℕ

abbrev pub at_root : Position → Position
at_root position = record position { literals = [] }

-- the literals, and one more at their end
abbrev pub with : List Literal → Atom → Bool → List Literal
with literals atom positive = literals ++ record { atom = atom; positive = positive } ∷ []

-- the branch that waits where a literal stands: the other one of its split, until that is taken
abbrev pub waits : List Literal → Atom → Bool → List (List Literal)
waits before atom true = with before atom false ∷ []
waits before atom false = []

-- the branches that wait along a path, the deepest first, where these literals stand before it
abbrev pub pending : List Literal → List Literal → List (List Literal)
pending before [] = []
pending before (l ∷ ls) = pending (before ++ l ∷ []) ls ++ waits before l.atom l.positive
