-- Lists that grow at their ends, and what stands at a place of one.
use Rattle.std.specs.Prelude.{◌≡◌, ℕ, List, ◌++◌, MatchOption, slice_get}

-- the new list begins with the old one
abbrev pub Extends : {X : Type 0} → List X → List X → Type 0
Extends {X} old new = (more : List X) × (new ≡ old ++ more)

-- there is a place, and P of what stands there
abbrev pub StandsAt : {X : Type 0} → List X → (X → Type 0) → ℕ → Type 0
StandsAt xs P place = MatchOption (slice_get xs place) ⊥ P
