-- Numbers of atoms that stand in order, their names: those that an atom is around are a range of numbers.
use Rattle.std.specs.Prelude.{◌≡◌, ◌⊎◌, ℕ, ◌≤◌, ◌<◌, Bool, true, false, List, length, slice_index, slice_get, All, Option, Some, None}
use Rattle.std.specs.List.{slice_index_or}
use Rattle.csp_facts.specs.Atoms.{IsValidAtom}
use Rattle.csp_facts.specs.declared.atom.Atom.{Atom}
use Rattle.csp_branch.specs.Around.{is_around}
use Rattle.csp_branch.specs.Sorting.{Rise}

-- valid atoms, each below those after it
pub record AreInOrder (atoms : List Atom) : Type 0 where
  pub valid : All IsValidAtom atoms
  pub rise : Rise atoms

abbrev pub both_around : Option Atom → Option Atom → Bool
both_around (Some outer) (Some inner) = is_around outer inner
both_around outer inner = false

-- the atom of the first name is around that of the second; false where there is no such name
abbrev pub around_in : List Atom → ℕ → ℕ → Bool
around_in atoms outer inner = both_around (slice_get atoms outer) (slice_get atoms inner)

-- what is around what, where all are nested or apart
pub record IsForest (around : ℕ → ℕ → Bool) : Type 0 where
  pub through : (a b c : ℕ) → around a b ≡ true → around b c ≡ true → around a c ≡ true
  pub nest : (a b c : ℕ) → around a c ≡ true → around b c ≡ true → (around a b ≡ true) ⊎ (around b a ≡ true)

-- the same as `around_in`, of atoms that are there
abbrev pub IsAroundIs : List Atom → ℕ → ℕ → Bool → Type 0
IsAroundIs atoms outer inner test =
    (d : Atom) → is_around (slice_index_or atoms outer d) (slice_index_or atoms inner d) ≡ test

-- an atom is around those from its name to this end
pub record IsEnd (atoms : List Atom) (name end : ℕ) : Type 0 where
  pub above : name < end
  pub inside : end ≤ length atoms
  pub within : (k : ℕ) → name ≤ k → k < end → IsAroundIs atoms name k true
  pub beyond : (k : ℕ) → end ≤ k → k < length atoms → IsAroundIs atoms name k false

-- so it is of each name from this one on
pub record AreEndsFrom (atoms : List Atom) (ends : List ℕ) (from : ℕ) : Type 0 where
  pub long : length ends ≡ length atoms
  pub each : (k : ℕ) → from ≤ k → k < length atoms → IsEnd atoms k (slice_index ends k)

abbrev pub AreEnds : List Atom → List ℕ → Type 0
AreEnds atoms ends = AreEndsFrom atoms ends 0

-- the innermost of the names around this one, but for itself
pub record IsOuter (atoms : List Atom) (name outer : ℕ) : Type 0 where
  pub before : outer < name
  pub on : around_in atoms outer name ≡ true
  pub innermost : (k : ℕ) → k < name → around_in atoms k name ≡ true → around_in atoms k outer ≡ true

-- no name is around this one, but for itself
abbrev pub IsOutermost : List Atom → ℕ → Type 0
IsOutermost atoms name = (k : ℕ) → k < name → around_in atoms k name ≡ false

abbrev pub IsOuterOr : List Atom → ℕ → Option ℕ → Type 0
IsOuterOr atoms name (Some outer) = IsOuter atoms name outer
IsOuterOr atoms name None = IsOutermost atoms name

-- each name before this one has its outer one
pub record AreOutersTo (atoms : List Atom) (outers : List (Option ℕ)) (to : ℕ) : Type 0 where
  pub long : length outers ≡ to
  pub each : (k : ℕ) → k < to → IsOuterOr atoms k (slice_index_or outers k None)
