-- What the marks of a path tell is what its literals decide.
use Rattle.std.proofs.Common.{◌≡◌, ◌∙◌, refl, sym, ap, ap₂, subst, ℕ, ◌<◌, Bool, List, [], ◌∷◌, ◌++◌, append-nil, append_assoc, map, length, get_or, Option, Some, None}
use Rattle.std.proofs.lemmas.List.{get_or_default}
use Rattle.std.proofs.lemmas.List.Elements.{All-head, All-tail}
use Rattle.csp_facts.specs.Follows.{follows, decided, or_else}
use Rattle.csp_facts.specs.declared.atom.Atom.{Atom}
use Rattle.csp_facts.specs.declared.atom.Atom.TheVariants.{HostDomain}
use Rattle.csp_facts.specs.declared.atom.Literal.{Literal}
use Rattle.csp_branch.specs.Numbers.{AreInOrder}
use Rattle.csp_branch.proofs.Forest.{one_name}
use Rattle.csp_branch.specs.Groups.{atom_in}
use Rattle.csp_branch.specs.Marks.{Marks, known_in, mark_at, marked, marked_by, marks_of, no_marks, with_mark}
use Rattle.csp_branch.specs.Paths.{AreNamed, literal_of, path_of}
use Rattle.csp_branch.specs.declared.named_literal.NamedLiteral.{NamedLiteral}
use Rattle.csp_branch.proofs.Marking.{Sound, sound_more, sound_none, taken_back, told_more, told_none}
use Rattle.csp_branch.proofs.Taking.{nothing_after}

-- Paths

or_else_assoc : (o p q : Option Bool) → or_else o (or_else p q) ≡ or_else (or_else o p) q
or_else_assoc (Some v) p q = refl
or_else_assoc None p q = refl

pub path_more : (path : List Literal) (literal : Literal) (atom : Atom) → decided (path ++ literal ∷ []) atom ≡ or_else (decided path atom) (follows literal atom)
path_more [] literal atom = nothing_after (follows literal atom)
path_more (l ∷ path) literal atom =
    ap (or_else (follows l atom)) (path_more path literal atom) ∙ or_else_assoc (follows l atom) (decided path atom) (follows literal atom)

pub marks_push : (atoms : List Atom) (marks : Marks) (steps : List NamedLiteral) (step : NamedLiteral) → marked_by atoms marks (steps ++ step ∷ []) ≡ marked atoms (marked_by atoms marks steps) step
marks_push atoms marks [] step = refl
marks_push atoms marks (s ∷ steps) step = marks_push atoms (marked atoms marks s) steps step

pub back_by_mark : (atoms : List Atom) (steps : List NamedLiteral) (step : NamedLiteral) → with_mark atoms (marks_of atoms (steps ++ step ∷ [])) step.name (mark_at atoms (marks_of atoms steps) step.name) ≡ marks_of atoms steps
back_by_mark atoms steps step =
    ap (λ (marks : Marks). with_mark atoms marks step.name (mark_at atoms (marks_of atoms steps) step.name)) (marks_push atoms (no_marks atoms) steps step)
    ∙ taken_back atoms (marks_of atoms steps) step

-- Marks that tell

pub record Tells (atoms : List Atom) (literals : List Literal) (marks : Marks) : Type 0 where
  pub sound : Sound atoms marks
  pub tells : (asked : ℕ) → asked < length atoms → known_in atoms marks asked ≡ decided literals (atom_in atoms asked)

module _ (atoms : List Atom) (order : AreInOrder atoms) where
  abbrev IsNamed : NamedLiteral → Type 0
  IsNamed step = step.name < length atoms

  pub tells_more : (literals : List Literal) (marks : Marks) (step : NamedLiteral) → step.name < length atoms → Tells atoms literals marks
      → Tells atoms (literals ++ literal_of atoms step ∷ []) (marked atoms marks step)
  tells_more literals marks step here told = record {
    sound = sound_more atoms order marks told.sound step here;
    tells = λ asked there.
        told_more atoms order marks told.sound step here asked there
        ∙ ap (λ (o : Option Bool). or_else o (follows (literal_of atoms step) (atom_in atoms asked))) (told.tells asked there)
        ∙ sym (path_more literals (literal_of atoms step) (atom_in atoms asked));
  }

  tells_each : (literals : List Literal) (marks : Marks) (steps : List NamedLiteral) → AreNamed atoms steps → Tells atoms literals marks
      → Tells atoms (literals ++ map (literal_of atoms) steps) (marked_by atoms marks steps)
  tells_each literals marks [] named told = subst (λ (ls : List Literal). Tells atoms ls marks) (sym (append-nil literals)) told
  tells_each literals marks (s ∷ steps) named told =
      subst (λ (ls : List Literal). Tells atoms ls (marked_by atoms (marked atoms marks s) steps)) (append_assoc literals (literal_of atoms s ∷ []) (map (literal_of atoms) steps))
      (tells_each (literals ++ literal_of atoms s ∷ []) (marked atoms marks s) steps (All-tail IsNamed s steps named) (tells_more literals marks s (All-head IsNamed s steps named) told))

  pub tells_path : (steps : List NamedLiteral) → AreNamed atoms steps → Tells atoms (path_of atoms steps).literals (marks_of atoms steps)
  tells_path steps named = tells_each [] (no_marks atoms) steps named (record { sound = sound_none atoms; tells = λ asked there. told_none atoms asked })

  pub tells_at : (steps : List NamedLiteral) (asked : ℕ) (d : Atom) → AreNamed atoms steps → asked < length atoms
      → known_in atoms (marks_of atoms steps) asked ≡ decided (path_of atoms steps).literals (get_or atoms asked d)
  tells_at steps asked d named there =
      (tells_path steps named).tells asked there ∙ ap (decided (path_of atoms steps).literals) (get_or_default atoms asked HostDomain d there)

  -- a path has its literals' names

  one_step : (s t : NamedLiteral) → s.name < length atoms → t.name < length atoms → literal_of atoms s ≡ literal_of atoms t → s ≡ t
  one_step s t h k e =
      ap₂ (λ (name : ℕ) (positive : Bool). record { name = name; positive = positive })
      (one_name atoms s.name t.name HostDomain order h k (ap (λ (l : Literal). l.atom) e)) (ap (λ (l : Literal). l.positive) e)

  pub same_steps : (ss ts : List NamedLiteral) → AreNamed atoms ss → AreNamed atoms ts → map (literal_of atoms) ss ≡ map (literal_of atoms) ts → ss ≡ ts
  same_steps [] [] one two e = refl
  same_steps [] (t ∷ ts) one two e = cc
  same_steps (s ∷ ss) [] one two e = cc
  same_steps (s ∷ ss) (t ∷ ts) one two e =
      let first : literal_of atoms s ≡ literal_of atoms t = cc in
      let rest : map (literal_of atoms) ss ≡ map (literal_of atoms) ts = cc in
      ap₂ ◌∷◌ (one_step s t (All-head IsNamed s ss one) (All-head IsNamed t ts two) first) (same_steps ss ts (All-tail IsNamed s ss one) (All-tail IsNamed t ts two) rest)
