use Rattle.std.proofs.Common.{◌≡◌, ◌++◌, map, false, List as Items, ℕ}
use Rattle.csp_policy.specs.Delivered.{serialized_said}
use Rattle.csp_policy.proofs.serialized.add_between_commas.Given as goal

-- those of the pieces so far stand behind those that stood there
abbrev pub invariant-loop-text : goal.invariant-loop-text
invariant-loop-text l =
    map serialized_said l.made.items ≡ map serialized_said l.initial.made.items
    ++ map (λ (piece : Items ℕ). record { line = l.line; disposition = l.disposition; meta = false; text = piece }) (map (λ x. x.now) l.yielded)
