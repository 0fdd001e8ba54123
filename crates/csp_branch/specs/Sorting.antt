-- Atoms in the order of names, each once.
use Rattle.std.specs.Prelude.{◌≡◌, ℕ, ◌<◌, List, length, map}
use Rattle.std.specs.Borrow.{Bor}
use Rattle.std.specs.List.{slice_index_or}
use Rattle.std.specs.declared.cmp.Ordering.TheVariants.{Less}
use Rattle.csp_facts.specs.declared.atom.Atom.{Atom}
use Rattle.csp_branch.specs.Order.{name_cmp}

-- each atom is below those after it
abbrev pub Rise : List Atom → Type 0
Rise atoms = (i j : ℕ) (d : Atom) → i < j → j < length atoms
    → name_cmp (slice_index_or atoms i d) (slice_index_or atoms j d) ≡ Less

-- the atoms that are referred to
abbrev pub referred : List (Bor Atom) → List Atom
referred references = map (λ (atom : Bor Atom). atom.now) references
