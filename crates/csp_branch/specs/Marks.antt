-- What the literals of a path leave behind at names, and what is known by it.
use Rattle.std.specs.Prelude.{◌≡◌, ℕ, zero, suc, ◌&&◌, ◌||◌, Bool, true, false, not, List, [], ◌∷◌, length, set, replicate, Option, Some, None, is_some, if◌then◌else◌}
use Rattle.std.specs.List.{slice_index_or}
use Rattle.csp_facts.specs.Follows.{or_else}
use Rattle.csp_facts.specs.declared.atom.Atom.{Atom}
use Rattle.csp_branch.specs.Numbers.{AreInOrder, around_in}
use Rattle.csp_branch.specs.Branching.{known_at, sealed}
use Rattle.csp_branch.specs.Groups.{group_in, groups_in}
use Rattle.csp_branch.specs.Paths.{AreNamed}
use Rattle.csp_branch.specs.declared.mark.GroupState.{GroupState}
use Rattle.csp_branch.specs.declared.mark.Mark.{Mark}
use Rattle.csp_branch.specs.declared.named_literal.NamedLiteral.{NamedLiteral}

-- What is known

-- one of the first names, so many, was denied and is around this one
abbrev pub is_denied_by_first : List Atom → List Bool → ℕ → ℕ → Bool
is_denied_by_first atoms denied asked zero = false
is_denied_by_first atoms denied asked (suc n) =
    (slice_index_or denied n false && around_in atoms n asked) || is_denied_by_first atoms denied asked n

-- a denied name is around this one
abbrev pub is_denied_in : List Atom → List Bool → ℕ → Bool
is_denied_in atoms denied asked = is_denied_by_first atoms denied asked (length denied)

-- a seal decides what is open
abbrev pub seal_says : (ℕ → ℕ → Bool) → Option NamedLiteral → ℕ → Option Bool
seal_says around None asked = None
seal_says around (Some step) asked = Some (sealed around step.name step.positive asked)

abbrev pub known_by : (ℕ → ℕ → Bool) → GroupState → (ℕ → Bool) → ℕ → Option Bool
known_by around group denied asked =
    or_else (known_at around group.place denied asked) (seal_says around group.seal asked)

-- Marks at all names

pub record Marks : Type 0 where
  pub groups : List GroupState
  pub denied : List Bool

abbrev pub blank : GroupState
blank = record { place = None; seal = None }

abbrev pub no_marks : List Atom → Marks
no_marks atoms = record {
  groups = replicate (groups_in atoms) blank;
  denied = replicate (length atoms) false;
}

abbrev pub mark_at : List Atom → Marks → ℕ → Mark
mark_at atoms marks name = record {
  group = slice_index_or marks.groups (group_in atoms name) blank;
  denied = slice_index_or marks.denied name false;
}

abbrev pub with_mark : List Atom → Marks → ℕ → Mark → Marks
with_mark atoms marks name mark = record {
  groups = set marks.groups (group_in atoms name) mark.group;
  denied = set marks.denied name mark.denied;
}

abbrev pub known_in : List Atom → Marks → ℕ → Option Bool
known_in atoms marks asked =
    known_by (around_in atoms) (mark_at atoms marks asked).group (is_denied_in atoms marks.denied) asked

-- One literal more

abbrev pub placed : ℕ → Mark → Mark
placed name mark = record mark { group = record mark.group { place = Some name } }

-- the first seal counts
abbrev pub sealed_by : NamedLiteral → Mark → Mark
sealed_by step mark =
    if is_some mark.group.seal then mark else record mark { group = record mark.group { seal = Some step } }

abbrev pub agrees : Bool → Bool → Bool
agrees true positive = positive
agrees false positive = not positive

-- the mark after a literal of its name, where this was known of its atom
abbrev pub after : Option Bool → NamedLiteral → Mark → Mark
after None step mark = if step.positive then placed step.name mark else record mark { denied = true }
after (Some value) step mark = if agrees value step.positive then mark else sealed_by step mark

abbrev pub marked : List Atom → Marks → NamedLiteral → Marks
marked atoms marks step =
    with_mark atoms marks step.name
    (after (known_in atoms marks step.name) step (mark_at atoms marks step.name))

abbrev pub marked_by : List Atom → Marks → List NamedLiteral → Marks
marked_by atoms marks [] = marks
marked_by atoms marks (step ∷ steps) = marked_by atoms (marked atoms marks step) steps

abbrev pub marks_of : List Atom → List NamedLiteral → Marks
marks_of atoms steps = marked_by atoms (no_marks atoms) steps

-- the literals leave these marks
pub record AreMarks (atoms : List Atom) (steps : List NamedLiteral) (groups : List GroupState) (denied : List Bool)
    : Type 0 where
  pub order : AreInOrder atoms
  pub named : AreNamed atoms steps
  pub are : record { groups = groups; denied = denied } ≡ marks_of atoms steps
