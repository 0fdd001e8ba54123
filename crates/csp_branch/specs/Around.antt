-- Which atoms are around which: each check that has the inner one has the outer one.
use Rattle.std.specs.Prelude.{◌≢◌, Bool, is_some}
use Rattle.csp_model.specs.declared.check.CheckPart.TheVariants as part
use Rattle.csp_facts.specs.Atoms.{part_of}
use Rattle.csp_facts.specs.Follows.{follows_false}
use Rattle.csp_facts.specs.declared.atom.Atom.{Atom}

-- an atom is around those that its negation makes false: itself, and what lies under it
abbrev pub is_around : Atom → Atom → Bool
is_around outer inner = is_some (follows_false outer inner)

-- of the atoms on its part that are apart one alone holds; of the pairs of integrity metadata many do
abbrev pub StandsAlone : Atom → Type 0
StandsAlone atom = part_of atom ≢ part.Integrity
