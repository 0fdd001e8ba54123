use Rattle.std.proofs.Common.{◌≡◌, length, None}
use Rattle.std.specs.List.{flat_map, position_from}
use Rattle.csp_model.specs.Policies.{policies_of, is_bad}
use Rattle.csp_policy.specs.Room.{AreRead}
use Rattle.csp_policy.proofs.LinesSoFar.{said}
use Rattle.csp_policy.proofs.block.read_lines.Given as goal

-- no line so far is bad, and what they say was read
abbrev pub invariant-loop-line : goal.invariant-loop-line
invariant-loop-line l = record {
  number : l.number ≡ length l.yielded;
  good : position_from is_bad 1 (said l.yielded) ≡ None;
  read : AreRead (flat_map (policies_of l.origin) (said l.yielded)) l.reader.policies l.reader.room;
}
