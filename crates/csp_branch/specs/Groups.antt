-- Groups of names. Of two names in a group that are apart no check has both, and a literal says nothing of an
-- atom in another group.
use Rattle.std.specs.Prelude.{ℕ, ◌+◌, List, length}
use Rattle.std.specs.List.{slice_index_or}
use Rattle.csp_model.specs.declared.check.CheckPart.{CheckPart}
use Rattle.csp_model.specs.declared.check.CheckPart.TheVariants.{Integrity}
use Rattle.csp_facts.specs.Atoms.{part_of}
use Rattle.csp_facts.specs.declared.atom.Atom.{Atom}
use Rattle.csp_facts.specs.declared.atom.Atom.TheVariants.{HostDomain}
use Rattle.csp_branch.specs.Order.{part_number}

-- the atom of a name, with a default where there is no such name
abbrev pub atom_in : List Atom → ℕ → Atom
atom_in atoms name = slice_index_or atoms name HostDomain

-- each part of a check is a group; but a check may have many pairs of integrity metadata, so each pair is one
abbrev pub group_on : CheckPart → ℕ → ℕ
group_on Integrity name = 9 + name
group_on part name = part_number part

abbrev pub group_in : List Atom → ℕ → ℕ
group_in atoms name = group_on (part_of (atom_in atoms name)) name

-- each group's number is below this
abbrev pub groups_in : List Atom → ℕ
groups_in atoms = 9 + length atoms
