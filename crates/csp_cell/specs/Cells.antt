-- Cells: what the literals of one decide, which checks meet it, and which lists of literals are one.
use Rattle.std.specs.Prelude.{◌≡◌, Bool, true, false, not, ◌&&◌, List, ◌∷◌, ◌++◌, Option, Some, None, All, AllPairs, IsTrue, filter}
use Rattle.csp_facts.specs.Atoms.{BelongsTo, IsValidAtom}
use Rattle.csp_facts.specs.Follows.{follows, Refutes}
use Rattle.csp_facts.specs.Holding.{is_true_of}
use Rattle.csp_facts.specs.declared.atom.Atom.{Atom}
use Rattle.csp_facts.specs.declared.atom.Atom.TheVariants.{HostUnder, HostDomain, PathUnder, IntegrityHas, IntegrityOutside}
use Rattle.csp_facts.specs.declared.atom.Literal.{Literal}
use Rattle.csp_model.specs.declared.check.Check.{Check}
use Rattle.csp_model.specs.declared.source.Hash.{Hash}
use Rattle.csp_facts.specs.Shapes.{looks_at}
use Rattle.csp_facts.specs.declared.shape.Shape.{Shape}

-- the shape of the checks, and the literals that are true of those in the cell
pub record Region : Type 0 where
  pub shape : Shape
  pub literals : List Literal

-- each literal is true of the check
abbrev pub Meets : List Hash → Check → List Literal → Type 0
Meets hashes asked literals = All (λ literal. IsTrue (is_true_of hashes asked literal)) literals

-- the literal decides what the other decides, with the same values
abbrev pub Covers : Literal → Literal → Type 0
Covers literal other =
    (atom : Atom) (value : Bool) → follows other atom ≡ Some value → follows literal atom ≡ Some value

-- both are needed, and they can be true together
abbrev pub StandTogether : Literal → Literal → Type 0
StandTogether literal other = ¬ Covers literal other × ¬ Covers other literal × ¬ Refutes literal other

-- a proof can spell the atom, and the shape looks at the part that it speaks of
abbrev pub IsOf : Shape → Literal → Type 0
IsOf kind literal = IsValidAtom literal.atom × BelongsTo (looks_at kind) literal.atom

pub record IsCell (region : Region) : Type 0 where
  pub each : All (IsOf region.shape) region.literals
  pub pairs : AllPairs StandTogether region.literals

abbrev pub is_answer : Bool → Option Bool → Bool
is_answer true (Some value) = value
is_answer false (Some value) = not value
is_answer wanted None = false

-- the literal says what one part of a check is, or within what it lies. Integrity metadata has many pairs.
abbrev pub is_integrity : Atom → Bool
is_integrity (IntegrityHas hash) = true
is_integrity IntegrityOutside = true
is_integrity atom = false

abbrev pub places : Literal → Bool
places literal = literal.positive && not (is_integrity literal.atom)

-- what the literal says makes the other true
abbrev pub implies : Literal → Literal → Bool
implies literal other = is_answer other.positive (follows literal other.atom)

-- the literals that this one doesn't make needless
abbrev pub needed_beside : Literal → List Literal → List Literal
needed_beside literal literals = filter (λ other. not (implies literal other)) literals

-- a literal of this atom and sign decides no atom but its own
abbrev pub decides_alone : Atom → Bool → Bool
decides_alone (HostUnder suffix) positive = false
decides_alone HostDomain positive = false
decides_alone (PathUnder front) positive = false
decides_alone (IntegrityHas hash) positive = true
decides_alone IntegrityOutside positive = true
decides_alone atom positive = not positive

-- the new list has this literal, and of the old ones those that are needed beside it
abbrev pub Takes : List Literal → Literal → List Literal → Type 0
Takes old literal new =
    (front back : List Literal) × (front ++ back ≡ needed_beside literal old)
    × (new ≡ front ++ literal ∷ back)
