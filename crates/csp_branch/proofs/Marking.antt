-- Marks at all names after one literal more.
use Rattle.std.proofs.Common.{◌≡◌, ◌≢◌, ◌∙◌, refl, sym, ap, ap₂, ℕ, ◌≤◌, ◌<◌, inl, inr, Bool, true, false, nat_eq, nat_lt, List, length, get_or, replicate, Option, Some, None, if◌then◌else◌, arith}
use Rattle.std.proofs.lemmas.Bool.Decides.{nat_tests}
use Rattle.std.proofs.lemmas.List.{get_or_past, get_or-replicate, get_or-set_same, get_or-set_other, length-replicate, length-set, set-set, set-get_or}
use Rattle.csp_facts.specs.Follows.{false_where, follows, or_else}
use Rattle.csp_facts.specs.declared.atom.Atom.{Atom}
use Rattle.csp_branch.specs.Numbers.{AreInOrder, around_in}
use Rattle.csp_branch.proofs.Forest.{forest_in}
use Rattle.csp_branch.specs.Branching.{IsState, known_at}
use Rattle.csp_branch.specs.Groups.{atom_in, group_in, groups_in}
use Rattle.csp_branch.specs.Marks.{Marks, after, blank, is_denied_in, known_by, known_in, mark_at, marked, no_marks, seal_says, with_mark}
use Rattle.csp_branch.specs.Paths.{literal_of}
use Rattle.csp_branch.specs.declared.mark.GroupState.{GroupState}
use Rattle.csp_branch.specs.declared.mark.Mark.{Mark}
use Rattle.csp_branch.specs.declared.named_literal.NamedLiteral.{NamedLiteral}
use Rattle.csp_branch.proofs.Denials.{marked_down, nothing_denied}
use Rattle.csp_branch.proofs.Grouping.{apart, group_inside, said_in_group, said_elsewhere}
use Rattle.csp_branch.proofs.Taking.{denied_is, denied_next, next_elsewhere, nothing_after, place_after, state_after, told}

-- each group's place is a name in the group, and isn't denied
pub record Sound (atoms : List Atom) (marks : Marks) : Type 0 where
  pub groups : length marks.groups ≡ groups_in atoms
  pub denied : length marks.denied ≡ length atoms
  pub there : (g p : ℕ) → (get_or marks.groups g blank).place ≡ Some p → p < length atoms
  pub home : (g p : ℕ) → (get_or marks.groups g blank).place ≡ Some p → group_in atoms p ≡ g
  pub clear : (g p : ℕ) → (get_or marks.groups g blank).place ≡ Some p → is_denied_in atoms marks.denied p ≡ false

same_at : (around : ℕ → ℕ → Bool) (place : Option ℕ) (f g : ℕ → Bool) (asked : ℕ) → f asked ≡ g asked → known_at around place f asked ≡ known_at around place g asked
same_at around None f g asked e = ap false_where e
same_at around (Some p) f g asked e = ap (λ (t : Bool). if around asked p then Some true else if around p asked then false_where t else Some false) e

same_known : (around : ℕ → ℕ → Bool) (group : GroupState) (f g : ℕ → Bool) (asked : ℕ) → f asked ≡ g asked → known_by around group f asked ≡ known_by around group g asked
same_known around group f g asked e = ap (λ (o : Option Bool). or_else o (seal_says around group.seal asked)) (same_at around group.place f g asked e)

module _ (atoms : List Atom) (order : AreInOrder atoms) (marks : Marks) (sound : Sound atoms marks) (step : NamedLiteral) (here : step.name < length atoms) where
  abbrev number : ℕ
  number = group_in atoms step.name

  abbrev group : GroupState
  group = get_or marks.groups number blank

  abbrev known : Option Bool
  known = known_in atoms marks step.name

  abbrev mark : Mark
  mark = after known step (mark_at atoms marks step.name)

  abbrev next : ℕ → Bool
  next asked = denied_next (around_in atoms) known step.name step.positive (is_denied_in atoms marks.denied) asked

  inside : number < length marks.groups
  inside = let low = group_inside atoms step.name here in let long = sound.groups in omega (arith, low, long)

  state : IsState (around_in atoms) group.place (is_denied_in atoms marks.denied)
  state = record { down = marked_down atoms order marks.denied; clear = sound.clear number }

  now_denied : (asked : ℕ) → is_denied_in atoms (marked atoms marks step).denied asked ≡ next asked
  now_denied asked =
      denied_is atoms marks.denied known step.name step.positive group.place group.seal asked (let long = sound.denied in omega (arith, here, long))

  group_here : (g : ℕ) → g ≡ number → get_or (marked atoms marks step).groups g blank ≡ mark.group
  group_here g same = ap (λ (n : ℕ). get_or (marked atoms marks step).groups n blank) same ∙ get_or-set_same marks.groups number mark.group blank inside

  group_there : (g : ℕ) → (g ≢ number) → get_or (marked atoms marks step).groups g blank ≡ get_or marks.groups g blank
  group_there g other = get_or-set_other marks.groups number g mark.group blank other

  now_elsewhere : (asked : ℕ) → (number ≢ group_in atoms asked) → is_denied_in atoms (marked atoms marks step).denied asked ≡ is_denied_in atoms marks.denied asked
  now_elsewhere asked other =
      now_denied asked
      ∙ next_elsewhere (around_in atoms) known step.name step.positive (is_denied_in atoms marks.denied) asked (apart atoms order step.name asked other)

  pub told_more : (asked : ℕ) → asked < length atoms → known_in atoms (marked atoms marks step) asked
      ≡ or_else (known_in atoms marks asked) (follows (literal_of atoms step) (atom_in atoms asked))
  told_more asked there = by (nat_eq (group_in atoms asked) number) refl
    where
      by : (t : Bool) → nat_eq (group_in atoms asked) number ≡ t → known_in atoms (marked atoms marks step) asked
          ≡ or_else (known_in atoms marks asked) (follows (literal_of atoms step) (atom_in atoms asked))
      by true e =
          let same : group_in atoms asked ≡ number = grind (arith, nat_tests) in
          ap (λ (g : GroupState). known_by (around_in atoms) g (is_denied_in atoms (marked atoms marks step).denied) asked) (group_here (group_in atoms asked) same)
          ∙ same_known (around_in atoms) mark.group (is_denied_in atoms (marked atoms marks step).denied) next asked (now_denied asked)
          ∙ told (around_in atoms) (forest_in atoms order) group.place (is_denied_in atoms marks.denied) state step.name known step.positive group.seal
          (get_or marks.denied step.name false) asked refl
          ∙ ap₂ or_else
          (ap (λ (n : ℕ). known_by (around_in atoms) (get_or marks.groups n blank) (is_denied_in atoms marks.denied) asked) (sym same))
          (sym (said_in_group atoms order step.name asked here there step.positive (sym same)))
      by false e =
          let other : group_in atoms asked ≢ number = λ same. absurd (grind (arith, nat_tests)) in
          let far : number ≢ group_in atoms asked = λ same. other (sym same) in
          ap (λ (g : GroupState). known_by (around_in atoms) g (is_denied_in atoms (marked atoms marks step).denied) asked) (group_there (group_in atoms asked) other)
          ∙ same_known (around_in atoms) (get_or marks.groups (group_in atoms asked) blank) (is_denied_in atoms (marked atoms marks step).denied) (is_denied_in atoms marks.denied) asked
          (now_elsewhere asked far)
          ∙ sym (nothing_after (known_in atoms marks asked))
          ∙ ap (or_else (known_in atoms marks asked)) (sym (said_elsewhere atoms order step.name asked here there step.positive far))

  pub sound_more : Sound atoms (marked atoms marks step)
  sound_more = record {
    groups = length-set marks.groups number mark.group ∙ sound.groups;
    denied = length-set marks.denied step.name mark.denied ∙ sound.denied;
    there = λ g p at. there_by g p (nat_eq g number) refl at;
    home = λ g p at. home_by g p (nat_eq g number) refl at;
    clear = λ g p at. clear_by g p (nat_eq g number) refl at;
  }
    where
      there_by : (g p : ℕ) (t : Bool) → nat_eq g number ≡ t → (get_or (marked atoms marks step).groups g blank).place ≡ Some p → p < length atoms
      there_by g p true e at =
          let same : g ≡ number = grind (arith, nat_tests) in
          let placed : mark.group.place ≡ Some p = sym (ap (λ (x : GroupState). x.place) (group_here g same)) ∙ at in
          elim (place_after known step.name step.positive group.place group.seal (get_or marks.denied step.name false) p placed) [
            | inl was ↦ sound.there number p was
            | inr name ↦ omega (arith, here, name)
          ]
      there_by g p false e at =
          let other : g ≢ number = λ same. absurd (grind (arith, nat_tests)) in
          sound.there g p (sym (ap (λ (x : GroupState). x.place) (group_there g other)) ∙ at)

      home_by : (g p : ℕ) (t : Bool) → nat_eq g number ≡ t → (get_or (marked atoms marks step).groups g blank).place ≡ Some p → group_in atoms p ≡ g
      home_by g p true e at =
          let same : g ≡ number = grind (arith, nat_tests) in
          let placed : mark.group.place ≡ Some p = sym (ap (λ (x : GroupState). x.place) (group_here g same)) ∙ at in
          elim (place_after known step.name step.positive group.place group.seal (get_or marks.denied step.name false) p placed) [
            | inl was ↦ sound.home number p was ∙ sym same
            | inr name ↦ ap (group_in atoms) name ∙ sym same
          ]
      home_by g p false e at =
          let other : g ≢ number = λ same. absurd (grind (arith, nat_tests)) in
          sound.home g p (sym (ap (λ (x : GroupState). x.place) (group_there g other)) ∙ at)

      clear_by : (g p : ℕ) (t : Bool) → nat_eq g number ≡ t → (get_or (marked atoms marks step).groups g blank).place ≡ Some p
          → is_denied_in atoms (marked atoms marks step).denied p ≡ false
      clear_by g p true e at =
          let same : g ≡ number = grind (arith, nat_tests) in
          let placed : mark.group.place ≡ Some p = sym (ap (λ (x : GroupState). x.place) (group_here g same)) ∙ at in
          now_denied p
          ∙ (state_after (around_in atoms) (forest_in atoms order) group.place (is_denied_in atoms marks.denied) state step.name known step.positive group.seal
          (get_or marks.denied step.name false) refl).clear p placed
      clear_by g p false e at =
          let other : g ≢ number = λ same. absurd (grind (arith, nat_tests)) in
          let was = sym (ap (λ (x : GroupState). x.place) (group_there g other)) ∙ at in
          now_elsewhere p (λ same. other (sym (sound.home g p was) ∙ sym same)) ∙ sound.clear g p was

-- what stood at the name takes the literal back
pub taken_back : (atoms : List Atom) (marks : Marks) (step : NamedLiteral) → with_mark atoms (marked atoms marks step) step.name (mark_at atoms marks step.name) ≡ marks
taken_back atoms marks step =
    ap₂ (λ (gs : List GroupState) (ds : List Bool). record { groups = gs; denied = ds })
    (set-set marks.groups (group_in atoms step.name) _ _ ∙ set-get_or marks.groups (group_in atoms step.name) blank)
    (set-set marks.denied step.name _ _ ∙ set-get_or marks.denied step.name false)

-- At the root

blank_at : (n k : ℕ) → get_or (replicate n blank) k blank ≡ blank
blank_at n k = by (nat_lt k n) refl
  where
    by : (t : Bool) → nat_lt k n ≡ t → get_or (replicate n blank) k blank ≡ blank
    by true e = get_or-replicate n k blank blank (grind (arith, nat_tests))
    by false e = let over : n ≤ k = grind (arith, nat_tests) in get_or_past (replicate n blank) k blank (omega (arith, length-replicate n blank, over))

no_place : (n k p : ℕ) → (get_or (replicate n blank) k blank).place ≡ Some p → ⊥
no_place n k p e = let none : None ≡ Some p = sym (ap (λ (g : GroupState). g.place) (blank_at n k)) ∙ e in cc

pub sound_none : (atoms : List Atom) → Sound atoms (no_marks atoms)
sound_none atoms = record {
  groups = length-replicate (groups_in atoms) blank;
  denied = length-replicate (length atoms) false;
  there = λ g p at. absurd (no_place (groups_in atoms) g p at);
  home = λ g p at. absurd (no_place (groups_in atoms) g p at);
  clear = λ g p at. absurd (no_place (groups_in atoms) g p at);
}

pub told_none : (atoms : List Atom) (asked : ℕ) → known_in atoms (no_marks atoms) asked ≡ None
told_none atoms asked =
    ap (λ (g : GroupState). known_by (around_in atoms) g (is_denied_in atoms (no_marks atoms).denied) asked) (blank_at (groups_in atoms) (group_in atoms asked))
    ∙ nothing_after (false_where (is_denied_in atoms (no_marks atoms).denied asked))
    ∙ ap false_where (nothing_denied atoms (length atoms) asked)
