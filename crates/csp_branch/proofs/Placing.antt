-- The place of a branch on a part: what its literals decide of the atoms around it and apart from it.
use Rattle.std.proofs.Common.{◌≡◌, ◌≢◌, ◌∙◌, sym, ap, ap₂, ℕ, ◌<◌, Bool, true, false, List, length, get_or, Option, Some, None, IfSome, if◌then◌else◌}
use Rattle.csp_model.specs.declared.check.CheckPart.{CheckPart}
use Rattle.csp_model.specs.declared.check.CheckPart.TheVariants as part
use Rattle.csp_facts.specs.Atoms.{part_of}
use Rattle.csp_facts.specs.Follows.{decided, false_where, or_else}
use Rattle.csp_facts.specs.declared.atom.Atom.{Atom}
use Rattle.csp_facts.specs.declared.atom.Literal.{Literal}
use Rattle.csp_branch.specs.Numbers.{AreInOrder, around_in}
use Rattle.csp_branch.specs.Order.{part_number}
use Rattle.csp_branch.specs.Branching.{known_at}
use Rattle.csp_branch.specs.Groups.{atom_in, group_in, group_on}
use Rattle.csp_branch.specs.Marks.{Marks, blank, is_denied_in, known_by, known_in, seal_says}
use Rattle.csp_branch.specs.Places.{IsPlace}
use Rattle.csp_branch.specs.declared.mark.GroupState.{GroupState}
use Rattle.csp_branch.proofs.Grouping.{around_one_group, other_number, part_in_group}
use Rattle.csp_branch.proofs.Telling.{Tells}

module _ (around : ℕ → ℕ → Bool) (group : GroupState) (denied : ℕ → Bool) (place name : ℕ) (placed : group.place ≡ Some place) where
  by_place : known_by around group denied name ≡ or_else (known_at around (Some place) denied name) (seal_says around group.seal name)
  by_place = ap (λ (o : Option ℕ). or_else (known_at around o denied name) (seal_says around group.seal name)) placed

  -- what is told by the two tests
  abbrev told_by : Bool → Bool → Option Bool
  told_by inner outer = or_else (if inner then Some true else if outer then false_where (denied name) else Some false) (seal_says around group.seal name)

  known_around : around name place ≡ true → known_by around group denied name ≡ Some true
  known_around on = by_place ∙ ap (λ (t : Bool). told_by t (around place name)) on

  known_apart : around name place ≡ false → around place name ≡ false → known_by around group denied name ≡ Some false
  known_apart off out = by_place ∙ ap₂ told_by off out

module _ (atoms : List Atom) (order : AreInOrder atoms) (literals : List Literal) (marks : Marks) (told : Tells atoms literals marks) (p : CheckPart) (single : p ≢ part.Integrity) where
  module _ (place : ℕ) (placed : (get_or marks.groups (part_number p) blank).place ≡ Some place) where
    home : group_in atoms place ≡ part_number p
    home = told.sound.home (part_number p) place placed

    abbrev denied : ℕ → Bool
    denied = is_denied_in atoms marks.denied

    -- what the marks tell of a name in the place's group
    here : (name : ℕ) (value : Bool) → name < length atoms → group_in atoms name ≡ part_number p
        → known_by (around_in atoms) (get_or marks.groups (part_number p) blank) denied name ≡ Some value
        → decided literals (atom_in atoms name) ≡ Some value
    here name value there same known =
        sym (told.tells name there) ∙ ap (λ (n : ℕ). known_by (around_in atoms) (get_or marks.groups n blank) denied name) same ∙ known

    pub is_place : IsPlace (record { atoms = atoms; literals = literals }) p place
    is_place = record {
      there = told.sound.there (part_number p) place placed;
      on = part_in_group (part_of (atom_in atoms place)) p place home;
      around = λ name there on.
          here name true there (around_one_group atoms order name place on ∙ home)
          (known_around (around_in atoms) (get_or marks.groups (part_number p) blank) denied place name placed on);
      apart = λ name there same off out.
          here name false there (ap (λ (q : CheckPart). group_on q name) same ∙ other_number p name single)
          (known_apart (around_in atoms) (get_or marks.groups (part_number p) blank) denied place name placed off out);
    }

  -- of the group's place, if it has one
  pub are_places : (place : Option ℕ) → (get_or marks.groups (part_number p) blank).place ≡ place → IfSome place (IsPlace (record { atoms = atoms; literals = literals }) p)
  are_places None placed = tt
  are_places (Some place) placed = is_place place placed
