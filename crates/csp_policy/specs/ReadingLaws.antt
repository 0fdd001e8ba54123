-- What laws of readings say.
use Rattle.std.specs.Prelude.{ℕ, ◌+◌, not, Bool, false, if◌then◌else◌, List, [], ◌∷◌, Option, Some, None, codes}
use Rattle.std.specs.List.{filter_map, flat_map}
use Rattle.std.specs.Str.{bytes_eq}
use Rattle.csp_model.specs.Ascii.{code, split_at}
use Rattle.csp_policy.specs.Types.{Directive, Policy as KeptPolicy, Origin, Fate}
use Rattle.csp_policy.specs.Fates.{Serialized, delivered, fates}
use Rattle.csp_policy.specs.Told.{Told, Policy, Dropped, told_dropped}

-- The pieces of a file

-- the pieces between the semicolons of its serialized policies, in order
abbrev pub pieces_in : List ℕ → List (List ℕ)
pieces_in bytes = flat_map (λ (s : Serialized). split_at (code ";") s.text) (delivered bytes)

-- the same, each with what becomes of it
abbrev pub fates_in : List ℕ → List (List ℕ × Fate)
fates_in bytes = flat_map (λ (s : Serialized). fates s.meta s.text) (delivered bytes)

-- what is told of those that are dropped, in order
abbrev pub dropped_in : List ℕ → List Told
dropped_in bytes = flat_map (λ (s : Serialized). filter_map (told_dropped s.line) (fates s.meta s.text)) (delivered bytes)

-- What is told

-- the number of the policy and the policy, where it is of this origin
abbrev pub policy_told : Origin → Told → Option (ℕ × KeptPolicy)
policy_told origin (Policy number line disposition meta ds) =
    Some (number, record { disposition = disposition; meta = meta; origin = origin; directives = ds })
policy_told origin (Dropped text line reason) = None

-- policies, numbered from this number on
abbrev pub numbered : ℕ → List KeptPolicy → List (ℕ × KeptPolicy)
numbered number [] = []
numbered number (p ∷ ps) = (number, p) ∷ numbered (number + 1) ps

abbrev pub directives_told : Told → List Directive
directives_told (Policy number line disposition meta ds) = ds
directives_told (Dropped text line reason) = []

-- what is told is a piece of a policy, which is dropped
abbrev pub is_piece : Told → Bool
is_piece (Policy number line disposition meta ds) = false
is_piece (Dropped text line reason) = not (bytes_eq reason (codes "empty-policy"))

-- what is told is a serialized policy, whether a directive of it is kept or none; its line
abbrev pub policy_line : Told → Option ℕ
policy_line (Policy number line disposition meta ds) = Some line
policy_line (Dropped text line reason) = if bytes_eq reason (codes "empty-policy") then Some line else None
