-- What literals changed.
use Rattle.std.specs.Prelude.{◌≡◌, ℕ, ◌+◌, ◌<◌, List, [], ◌∷◌, ◌++◌, length, take}
use Rattle.std.specs.List.{slice_index_or}
use Rattle.csp_branch.specs.Marks.{mark_at, marks_of}
use Rattle.csp_branch.specs.Paths.{Path, path_of, AreNamed}
use Rattle.csp_branch.specs.declared.branch.Change.{Change}
use Rattle.csp_branch.specs.declared.named_literal.NamedLiteral.{NamedLiteral}

-- the change is that of the path's last literal: it has what the literals before that one left at its name
pub record IsLast (change : Change) (path : Path) : Type 0 where
  pub before : List NamedLiteral
  pub named : AreNamed path.atoms (before ++ change.step ∷ [])
  pub literals : path ≡ path_of path.atoms (before ++ change.step ∷ [])
  pub was : change.was ≡ mark_at path.atoms (marks_of path.atoms before) change.step.name

-- a path's first literals, so many
abbrev pub first_of : ℕ → Path → Path
first_of n path = record path { literals = take n path.literals }

-- the changes are those of the path's literals, the root's first, as a walk of a tree keeps them
pub record AreChanges (changes : List Change) (path : Path) : Type 0 where
  pub long : length changes ≡ length path.literals
  pub each : (i : ℕ) (d : Change) → i < length changes
      → IsLast (slice_index_or changes i d) (first_of (i + 1) path)
