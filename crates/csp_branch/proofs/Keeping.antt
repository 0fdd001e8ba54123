-- Marks of a path, as a branch holds them: what they tell, and how one literal more or less changes them.
use Rattle.std.proofs.Common.{◌≡◌, ◌≢◌, ◌∙◌, refl, sym, ap, ap₂, subst, ℕ, ◌<◌, ◌-◌, Bool, false, IfSome, List, [], ◌∷◌, ◌++◌, length, length-append, map, get_or, set, take, Option, arith}
use Rattle.std.specs.Option.{ForSome}
use Rattle.std.proofs.lemmas.List.{get_or_default, map-append, take_at}
use Rattle.std.proofs.lemmas.List.Elements.{All-contains, All-push, All-take, Contains-push}
use Rattle.csp_model.specs.declared.check.CheckPart.{CheckPart}
use Rattle.csp_model.specs.declared.check.CheckPart.TheVariants.{Integrity}
use Rattle.csp_facts.specs.Follows.{decided}
use Rattle.csp_facts.specs.declared.atom.Atom.{Atom}
use Rattle.csp_facts.specs.declared.atom.Atom.TheVariants.{HostDomain}
use Rattle.csp_facts.specs.declared.atom.Literal.{Literal}
use Rattle.csp_branch.specs.Numbers.{around_in}
use Rattle.csp_branch.specs.Order.{part_number}
use Rattle.csp_branch.specs.Changes.{IsLast}
use Rattle.csp_branch.specs.Groups.{group_in, groups_in}
use Rattle.csp_branch.specs.Marks.{AreMarks, Marks, after, blank, is_denied_in, known_by, known_in, mark_at, marked, marks_of, no_marks, with_mark}
use Rattle.csp_branch.specs.Paths.{AreNamed, Path, literal_of, path_of}
use Rattle.csp_branch.specs.Places.{IsPlace}
use Rattle.csp_branch.specs.declared.branch.Change.{Change}
use Rattle.csp_branch.specs.declared.mark.GroupState.{GroupState}
use Rattle.csp_branch.specs.declared.mark.Mark.{Mark}
use Rattle.csp_branch.specs.declared.named_literal.NamedLiteral.{NamedLiteral}
use Rattle.csp_branch.proofs.Grouping.{below_nine}
use Rattle.csp_branch.proofs.Placing.{are_places}
use Rattle.csp_branch.proofs.Telling.{Tells, back_by_mark, marks_push, same_steps, tells_path}

-- without its last one a list is what came before
take_before : {X : Type 0} (xs : List X) (x : X) → take (length (xs ++ x ∷ []) - 1) (xs ++ x ∷ []) ≡ xs
take_before xs x = take_at xs (x ∷ []) (length (xs ++ x ∷ []) - 1) (omega (arith, length-append xs (x ∷ [])))

pub path_push : (atoms : List Atom) (steps : List NamedLiteral) (step : NamedLiteral)
    → path_of atoms (steps ++ step ∷ []) ≡ record { atoms = atoms; literals = (path_of atoms steps).literals ++ literal_of atoms step ∷ [] }
path_push atoms steps step =
    ap (λ (ls : List Literal). record { atoms = atoms; literals = ls }) (map-append (literal_of atoms) steps (step ∷ []))

module _ (atoms : List Atom) (steps : List NamedLiteral) (groups : List GroupState) (denied : List Bool) (are : AreMarks atoms steps groups denied) where
  abbrev marks : Marks
  marks = record { groups = groups; denied = denied }

  pub tells : Tells atoms (path_of atoms steps).literals marks
  tells = subst (λ (m : Marks). Tells atoms (path_of atoms steps).literals m) (sym are.are) (tells_path atoms are.order steps are.named)

  pub groups_long : length groups ≡ groups_in atoms
  groups_long = tells.sound.groups

  pub denied_long : length denied ≡ length atoms
  denied_long = tells.sound.denied

  -- what is read of them
  group_read : (number : ℕ) (group : GroupState) → number < groups_in atoms → group ≡ get_or groups number group → group ≡ get_or groups number blank
  group_read number group h at = at ∙ get_or_default groups number group blank (let long = groups_long in omega (arith, h, long))

  pub clear : (there : List Bool) (number : ℕ) (group : GroupState) → there ≡ denied → number < groups_in atoms → group ≡ get_or groups number group
      → ForSome group.place (λ place. is_denied_in atoms there place ≡ false)
  clear there number group same h at p placed =
      ap (λ (ds : List Bool). is_denied_in atoms ds p) same
      ∙ tells.sound.clear number p (ap (λ (g : GroupState). g.place) (sym (group_read number group h at)) ∙ placed)

  pub known_here : (there : List Bool) (number : ℕ) (group : GroupState) (asked : ℕ) (value : Option Bool) → there ≡ denied → number < groups_in atoms → number ≡ group_in atoms asked
      → group ≡ get_or groups number group → value ≡ known_by (around_in atoms) group (is_denied_in atoms there) asked → value ≡ known_in atoms marks asked
  known_here there number group asked value same h at is told =
      told
      ∙ ap (λ (ds : List Bool). known_by (around_in atoms) group (is_denied_in atoms ds) asked) same
      ∙ ap (λ (g : GroupState). known_by (around_in atoms) g (is_denied_in atoms denied) asked) (group_read number group h is ∙ ap (λ (n : ℕ). get_or groups n blank) at)

  mark_read : (number : ℕ) (group : GroupState) (name : ℕ) (bit : Bool) → number < groups_in atoms → number ≡ group_in atoms name → group ≡ get_or groups number group
      → name < length atoms → bit ≡ get_or denied name bit → record { group = group; denied = bit } ≡ mark_at atoms marks name
  mark_read number group name bit h at is there bit_is =
      ap₂ (λ (g : GroupState) (b : Bool). record { group = g; denied = b })
      (group_read number group h is ∙ ap (λ (n : ℕ). get_or groups n blank) at)
      (bit_is ∙ get_or_default denied name bit false (let long = denied_long in omega (arith, there, long)))

  pub decided_here : (asked : ℕ) (d : Atom) (value : Option Bool) → asked < length atoms → value ≡ known_in atoms marks asked
      → value ≡ decided (path_of atoms steps).literals (get_or atoms asked d)
  decided_here asked d value there told =
      told ∙ tells.tells asked there ∙ ap (decided (path_of atoms steps).literals) (get_or_default atoms asked HostDomain d there)

  pub places_here : (p : CheckPart) → (p ≢ Integrity) → (number : ℕ) (group : GroupState) → number ≡ part_number p → group ≡ get_or groups number group
      → IfSome group.place (IsPlace (path_of atoms steps) p)
  places_here p single number group is at =
      let low = below_nine p in
      are_places atoms are.order (path_of atoms steps).literals marks tells p single group.place
      (ap (λ (n : ℕ). (get_or groups n blank).place) (sym is) ∙ ap (λ (g : GroupState). g.place) (sym (group_read number group (omega (arith, low, is)) at)))

  -- one literal more
  module _ (name : ℕ) (positive : Bool) (number : ℕ) (group : GroupState) (bit : Bool) (here : name < length atoms) (low : number < groups_in atoms) (at : number ≡ group_in atoms name)
      (group_is : group ≡ get_or groups number group) (bit_is : bit ≡ get_or denied name bit) (now : List NamedLiteral) (grown : now ≡ steps ++ record { name = name; positive = positive } ∷ []) where
    abbrev step : NamedLiteral
    step = record { name = name; positive = positive }

    abbrev was : Mark
    was = record { group = group; denied = bit }

    named_more : AreNamed atoms (steps ++ step ∷ [])
    named_more = All-push (λ (s : NamedLiteral). s.name < length atoms) steps step are.named here

    was_is : was ≡ mark_at atoms marks name
    was_is = mark_read number group name bit low at group_is here bit_is

    pub one_more : (there : List Bool) (known : Option Bool) (mark : Mark) → there ≡ denied → known ≡ known_by (around_in atoms) group (is_denied_in atoms there) name
        → mark ≡ after known step was → AreMarks atoms now (set groups number mark.group) (set denied name mark.denied)
    one_more there known mark same told is =
        subst (λ (ss : List NamedLiteral). AreMarks atoms ss (set groups number mark.group) (set denied name mark.denied)) (sym grown) (record {
          order = are.order;
          named = named_more;
          are = ap (λ (n : ℕ). record { groups = set groups n mark.group; denied = set denied name mark.denied }) at
              ∙ ap (λ (m : Mark). with_mark atoms marks name m) (is ∙ ap₂ (λ (k : Option Bool) (m : Mark). after k step m) (known_here there number group name known same low at group_is told) was_is)
              ∙ ap (λ (m : Marks). marked atoms m step) are.are ∙ sym (marks_push atoms (no_marks atoms) steps step);
        })

    pub last_is : IsLast (record { step = step; was = was }) (path_of atoms now)
    last_is = subst (λ (ss : List NamedLiteral). IsLast (record { step = step; was = was }) (path_of atoms ss)) (sym grown) (record {
      before = steps;
      named = named_more;
      literals = refl;
      was = was_is ∙ ap (λ (m : Marks). mark_at atoms m name) are.are;
    })

  -- the last literal less
  module _ (change : Change) (path : Path) (same : path_of atoms steps ≡ path) (last : IsLast change path) where
    there : path.atoms ≡ atoms
    there = ap (λ (p : Path). p.atoms) (sym same)

    here_named : AreNamed atoms (last.before ++ change.step ∷ [])
    here_named = subst (λ (ats : List Atom). AreNamed ats (last.before ++ change.step ∷ [])) there last.named

    pub steps_are : steps ≡ last.before ++ change.step ∷ []
    steps_are = same_steps atoms are.order steps (last.before ++ change.step ∷ []) are.named here_named
        (ap (λ (p : Path). p.literals) (same ∙ last.literals ∙ ap (λ (ats : List Atom). path_of ats (last.before ++ change.step ∷ [])) there))

    pub front_is : take (length steps - 1) steps ≡ last.before
    front_is = ap (λ (ss : List NamedLiteral). take (length ss - 1) ss) steps_are ∙ take_before last.before change.step

    was_here : change.was ≡ mark_at atoms (marks_of atoms last.before) change.step.name
    was_here = last.was ∙ ap (λ (ats : List Atom). mark_at ats (marks_of ats last.before) change.step.name) there

    pub step_here : change.step.name < length atoms
    step_here = All-contains (λ (s : NamedLiteral). s.name < length atoms) (last.before ++ change.step ∷ []) change.step here_named (Contains-push last.before change.step)

    pub one_less : (number : ℕ) (now : List NamedLiteral) → number ≡ group_in atoms change.step.name → now ≡ take (length steps - 1) steps
        → AreMarks atoms now (set groups number change.was.group) (set denied change.step.name change.was.denied)
    one_less number now at shrunk =
        subst (λ (ss : List NamedLiteral). AreMarks atoms ss (set groups number change.was.group) (set denied change.step.name change.was.denied)) (sym (shrunk ∙ front_is)) (record {
          order = are.order;
          named = subst (λ (ss : List NamedLiteral). AreNamed atoms ss) (take_at last.before (change.step ∷ []) (length last.before) refl)
              (All-take (λ (s : NamedLiteral). s.name < length atoms) (length last.before) (last.before ++ change.step ∷ []) here_named);
          are = ap (λ (n : ℕ). record { groups = set groups n change.was.group; denied = set denied change.step.name change.was.denied }) at
              ∙ ap₂ (λ (m : Marks) (was : Mark). with_mark atoms m change.step.name was) (are.are ∙ ap (marks_of atoms) steps_are) was_here
              ∙ back_by_mark atoms last.before change.step;
        })

    pub back : (now : List NamedLiteral) → now ≡ take (length steps - 1) steps → path ≡ record { atoms = atoms; literals = map (literal_of atoms) now ++ literal_of atoms change.step ∷ [] }
    back now shrunk =
        sym same ∙ ap (path_of atoms) (steps_are ∙ ap (λ (ss : List NamedLiteral). ss ++ change.step ∷ []) (sym (shrunk ∙ front_is))) ∙ path_push atoms now change.step
