use Rattle.std.proofs.Common.{◌++◌, List as Items, Bor, ℕ, map, false}
use Rattle.std.specs.List.{flat_map}
use Rattle.csp_model.specs.Policies.{policy_with, directives_of}
use Rattle.csp_policy.specs.Types.{Policy}
use Rattle.csp_policy.specs.Room.{AreRead}
use Rattle.csp_policy.proofs.reader.Reader.add_policies.Given as goal

-- the policies of the pieces so far were read after those before
abbrev pub invariant-loop-piece : goal.invariant-loop-piece
invariant-loop-piece l = (ps : Items Policy) → AreRead ps l.initial.self.policies l.initial.self.room
    → AreRead (ps ++ flat_map (λ piece. policy_with l.origin l.disposition false (directives_of piece)) (map (λ (x : Bor (Items ℕ)). x.now) l.yielded)) l.self.policies l.self.room
