-- What literals say of the atoms of a group, told by one place and by denials. An atom is a number.
use Rattle.std.specs.Prelude.{◌≡◌, ℕ, Bool, true, false, ◌||◌, ◌&&◌, Option, Some, None, if◌then◌else◌}
use Rattle.csp_facts.specs.Follows.{nested, false_where, or_else}

-- what a literal says of an atom in the group of its own
abbrev pub says : (ℕ → ℕ → Bool) → ℕ → Bool → ℕ → Option Bool
says around known positive asked =
    if positive then nested (around asked known) (around known asked) else false_where (around known asked)

-- what is known of an atom: what is around the place is true, what is apart from it is false, and what lies
-- under it is false where it was denied
abbrev pub known_at : (ℕ → ℕ → Bool) → Option ℕ → (ℕ → Bool) → ℕ → Option Bool
known_at around None denied asked = false_where (denied asked)
known_at around (Some place) denied asked =
    if around asked place then Some true
    else if around place asked then false_where (denied asked)
    else Some false

-- what lies under a denied atom is denied, and the place isn't
pub record IsState (around : ℕ → ℕ → Bool) (place : Option ℕ) (denied : ℕ → Bool) : Type 0 where
  pub down : (a b : ℕ) → denied a ≡ true → around a b ≡ true → denied b ≡ true
  pub clear : (p : ℕ) → place ≡ Some p → denied p ≡ false

-- with what lies under this one
abbrev pub denied_too : (ℕ → ℕ → Bool) → (ℕ → Bool) → ℕ → ℕ → Bool
denied_too around denied known asked = denied asked || around known asked

-- what is known with one literal more
abbrev pub with_literal : (ℕ → ℕ → Bool) → Option ℕ → (ℕ → Bool) → ℕ → Bool → ℕ → Option Bool
with_literal around place denied known positive asked =
    or_else (known_at around place denied asked) (says around known positive asked)

-- what a literal that is contrary to what is known says of each open atom
abbrev pub sealed : (ℕ → ℕ → Bool) → ℕ → Bool → ℕ → Bool
sealed around known positive asked = positive && around asked known
