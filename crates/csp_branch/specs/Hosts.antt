-- The order of atoms on hosts: by their texts read from the end. So what lies under a suffix stands right
-- behind it.
use Rattle.std.specs.Prelude.{◌≡◌, ℕ, List, [], ◌∷◌, reverse}
use Rattle.std.specs.Cmp.Lexicographic.{slice_cmp}
use Rattle.std.specs.Ordering.{nat_cmp}
use Rattle.std.specs.declared.cmp.Ordering.{Ordering}
use Rattle.csp_model.specs.Ascii.{code}
use Rattle.csp_model.specs.declared.check.CheckPart.TheVariants as part
use Rattle.csp_model.specs.declared.url.Host.TheVariants.{Domain, Address}
use Rattle.csp_facts.specs.Atoms.{part_of, IsValidAtom}
use Rattle.csp_facts.specs.declared.atom.Atom.{Atom}
use Rattle.csp_facts.specs.declared.atom.Atom.TheVariants.{HostIs, HostUnder, HostDomain}

-- addresses begin with 0, what is on domains with 1; a host's text ends in 0, a suffix in the dot before it
abbrev pub host_key : Atom → List ℕ
host_key (HostIs (Address text)) = 0 ∷ reverse (0 ∷ text)
host_key (HostIs (Domain text)) = 1 ∷ reverse (0 ∷ text)
host_key (HostUnder suffix) = 1 ∷ reverse (code "." ∷ suffix)
host_key HostDomain = 1 ∷ []
host_key atom = []

abbrev pub host_cmp : Atom → Atom → Ordering
host_cmp one other = slice_cmp nat_cmp (host_key one) (host_key other)

-- a valid atom on hosts
pub record IsHostAtom (atom : Atom) : Type 0 where
  pub part : part_of atom ≡ part.Host
  pub valid : IsValidAtom atom
