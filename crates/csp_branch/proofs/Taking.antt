-- One literal more of a name, by what was known of its atom.
use Rattle.std.proofs.Common.{◌≡◌, ◌∙◌, refl, sym, ap, ℕ, ◌<◌, ◌⊎◌, inl, inr, Bool, true, false, ◌||◌, List, length, get_or, set, Option, Some, None}
use Rattle.std.proofs.lemmas.List.{set-get_or}
use Rattle.csp_facts.specs.Follows.{or_else}
use Rattle.csp_facts.specs.declared.atom.Atom.{Atom}
use Rattle.csp_branch.specs.Numbers.{IsForest, around_in}
use Rattle.csp_branch.specs.Branching.{IsState, known_at, says, sealed, denied_too}
use Rattle.csp_branch.specs.Marks.{after, is_denied_in, known_by}
use Rattle.csp_branch.specs.declared.mark.Mark.{Mark}
use Rattle.csp_branch.specs.declared.named_literal.NamedLiteral.{NamedLiteral}
use Rattle.csp_branch.proofs.Denials.{marked_more}
use Rattle.csp_branch.proofs.Literals.{deny, placed, repeat, contrary, placed_state, denied_state}

pub nothing_after : (o : Option Bool) → or_else o None ≡ o
nothing_after (Some v) = refl
nothing_after None = refl

decided_once : (o s : Option Bool) (v : Bool) → or_else o (Some v) ≡ or_else (or_else o (Some v)) s
decided_once (Some w) s v = refl
decided_once None s v = refl

never_open : (o : Option Bool) (v : Bool) → or_else o (Some v) ≡ None → ⊥
never_open (Some w) v e = cc
never_open None v e = cc

abbrev pub step_of : ℕ → Bool → NamedLiteral
step_of name positive = record { name = name; positive = positive }

abbrev pub mark_of : Option ℕ → Option NamedLiteral → Bool → Mark
mark_of place seal bit = record { group = record { place = place; seal = seal }; denied = bit }

-- which names are denied then
abbrev pub denied_next : (ℕ → ℕ → Bool) → Option Bool → ℕ → Bool → (ℕ → Bool) → ℕ → Bool
denied_next around None name true denied asked = denied asked
denied_next around None name false denied asked = denied_too around denied name asked
denied_next around (Some value) name positive denied asked = denied asked

or_false : (s t : Bool) → t ≡ false → (s || t) ≡ s
or_false true t e = refl
or_false false t e = e

pub next_elsewhere : (around : ℕ → ℕ → Bool) (known : Option Bool) (name : ℕ) (positive : Bool) (denied : ℕ → Bool) (asked : ℕ) → around name asked ≡ false
    → denied_next around known name positive denied asked ≡ denied asked
next_elsewhere around None name true denied asked e = refl
next_elsewhere around None name false denied asked e = or_false (denied asked) (around name asked) e
next_elsewhere around (Some value) name positive denied asked e = refl

-- the place is as before, or this name
pub place_after : (known : Option Bool) (name : ℕ) (positive : Bool) (place : Option ℕ) (seal : Option NamedLiteral) (bit : Bool) (p : ℕ)
    → (after known (step_of name positive) (mark_of place seal bit)).group.place ≡ Some p → (place ≡ Some p) ⊎ (p ≡ name)
place_after None name true place seal bit p e = inr cc
place_after None name false place seal bit p e = inl e
place_after (Some true) name true place seal bit p e = inl e
place_after (Some false) name false place seal bit p e = inl e
place_after (Some true) name false place None bit p e = inl e
place_after (Some true) name false place (Some s) bit p e = inl e
place_after (Some false) name true place None bit p e = inl e
place_after (Some false) name true place (Some s) bit p e = inl e

-- the list of what is denied
pub denied_is : (atoms : List Atom) (denied : List Bool) (known : Option Bool) (name : ℕ) (positive : Bool) (place : Option ℕ) (seal : Option NamedLiteral) (asked : ℕ) → name < length denied
    → is_denied_in atoms (set denied name (after known (step_of name positive) (mark_of place seal (get_or denied name false))).denied) asked
    ≡ denied_next (around_in atoms) known name positive (is_denied_in atoms denied) asked
denied_is atoms denied None name true place seal asked h = ap (λ (ds : List Bool). is_denied_in atoms ds asked) (set-get_or denied name false)
denied_is atoms denied None name false place seal asked h = marked_more atoms denied name asked h
denied_is atoms denied (Some true) name true place seal asked h = ap (λ (ds : List Bool). is_denied_in atoms ds asked) (set-get_or denied name false)
denied_is atoms denied (Some false) name false place seal asked h = ap (λ (ds : List Bool). is_denied_in atoms ds asked) (set-get_or denied name false)
denied_is atoms denied (Some true) name false place None asked h = ap (λ (ds : List Bool). is_denied_in atoms ds asked) (set-get_or denied name false)
denied_is atoms denied (Some true) name false place (Some s) asked h = ap (λ (ds : List Bool). is_denied_in atoms ds asked) (set-get_or denied name false)
denied_is atoms denied (Some false) name true place None asked h = ap (λ (ds : List Bool). is_denied_in atoms ds asked) (set-get_or denied name false)
denied_is atoms denied (Some false) name true place (Some s) asked h = ap (λ (ds : List Bool). is_denied_in atoms ds asked) (set-get_or denied name false)

module _ (around : ℕ → ℕ → Bool) (forest : IsForest around) (place : Option ℕ) (denied : ℕ → Bool) (state : IsState around place denied) (name : ℕ) where
  abbrev at : ℕ → Option Bool
  at asked = known_at around place denied asked

  abbrev before : Option NamedLiteral → ℕ → Option Bool
  before seal asked = known_by around (record { place = place; seal = seal }) denied asked

  abbrev next : Option Bool → Bool → Option NamedLiteral → Bool → Mark
  next known positive seal bit = after known (step_of name positive) (mark_of place seal bit)

  unsealed : (known : Option Bool) → before None name ≡ known → at name ≡ known
  unsealed known e = sym (nothing_after (at name)) ∙ e

  opened : (positive : Bool) (asked : ℕ) (new : Option Bool) → or_else (at asked) (says around name positive asked) ≡ new
      → new ≡ or_else (before None asked) (says around name positive asked)
  opened positive asked new e = sym e ∙ ap (λ (o : Option Bool). or_else o (says around name positive asked)) (sym (nothing_after (at asked)))

  -- what is known then
  pub told : (known : Option Bool) (positive : Bool) (seal : Option NamedLiteral) (bit : Bool) (asked : ℕ) → before seal name ≡ known
      → known_by around (next known positive seal bit).group (denied_next around known name positive denied) asked
      ≡ or_else (before seal asked) (says around name positive asked)
  told None positive (Some s) bit asked e = absurd (never_open (at name) (sealed around s.name s.positive name) e)
  told None true None bit asked e =
      nothing_after (known_at around (Some name) denied asked)
      ∙ opened true asked (known_at around (Some name) denied asked) (placed around forest place denied name asked state (unsealed None e))
  told None false None bit asked e =
      nothing_after (known_at around place (denied_too around denied name) asked)
      ∙ opened false asked (known_at around place (denied_too around denied name) asked) (deny around place denied name asked)
  told (Some true) true None bit asked e =
      nothing_after (at asked) ∙ opened true asked (at asked) (repeat around forest place denied name true asked state (unsealed (Some true) e))
  told (Some false) false None bit asked e =
      nothing_after (at asked) ∙ opened false asked (at asked) (repeat around forest place denied name false asked state (unsealed (Some false) e))
  told (Some true) false None bit asked e =
      opened false asked (or_else (at asked) (Some (sealed around name false asked))) (contrary around forest place denied name false asked state (unsealed (Some true) e))
  told (Some false) true None bit asked e =
      opened true asked (or_else (at asked) (Some (sealed around name true asked))) (contrary around forest place denied name true asked state (unsealed (Some false) e))
  told (Some true) true (Some s) bit asked e = decided_once (at asked) (says around name true asked) (sealed around s.name s.positive asked)
  told (Some false) false (Some s) bit asked e = decided_once (at asked) (says around name false asked) (sealed around s.name s.positive asked)
  told (Some true) false (Some s) bit asked e = decided_once (at asked) (says around name false asked) (sealed around s.name s.positive asked)
  told (Some false) true (Some s) bit asked e = decided_once (at asked) (says around name true asked) (sealed around s.name s.positive asked)

  pub state_after : (known : Option Bool) (positive : Bool) (seal : Option NamedLiteral) (bit : Bool) → before seal name ≡ known
      → IsState around (next known positive seal bit).group.place (denied_next around known name positive denied)
  state_after None positive (Some s) bit e = absurd (never_open (at name) (sealed around s.name s.positive name) e)
  state_after None true None bit e = placed_state around forest place denied name state (unsealed None e)
  state_after None false None bit e = denied_state around forest place denied name state (unsealed None e)
  state_after (Some true) true seal bit e = state
  state_after (Some false) false seal bit e = state
  state_after (Some true) false None bit e = state
  state_after (Some true) false (Some s) bit e = state
  state_after (Some false) true None bit e = state
  state_after (Some false) true (Some s) bit e = state
