-- Where a branch stands on a part of a check.
use Rattle.std.specs.Prelude.{◌≡◌, ℕ, ◌<◌, true, false, Some, length}
use Rattle.csp_model.specs.declared.check.CheckPart.{CheckPart}
use Rattle.csp_facts.specs.Atoms.{part_of}
use Rattle.csp_facts.specs.Follows.{decided}
use Rattle.csp_branch.specs.Numbers.{around_in}
use Rattle.csp_branch.specs.Groups.{atom_in}
use Rattle.csp_branch.specs.Paths.{Path}

-- the literals decide the atoms of the part that the place isn't around: those around it hold, the others
-- don't
pub record IsPlace (path : Path) (part : CheckPart) (place : ℕ) : Type 0 where
  pub there : place < length path.atoms
  pub on : part_of (atom_in path.atoms place) ≡ part
  pub around : (name : ℕ) → name < length path.atoms → around_in path.atoms name place ≡ true
      → decided path.literals (atom_in path.atoms name) ≡ Some true
  pub apart : (name : ℕ) → name < length path.atoms → part_of (atom_in path.atoms name) ≡ part
      → around_in path.atoms name place ≡ false → around_in path.atoms place name ≡ false
      → decided path.literals (atom_in path.atoms name) ≡ Some false
