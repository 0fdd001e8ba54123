use Rattle.std.proofs.Common.{◌≡◌, length, map}
use Rattle.csp_policy.specs.Delivered.{serialized_said}
use Rattle.csp_policy.specs.Fates.{delivered_from}
use Rattle.csp_policy.proofs.LinesSoFar.{said}
use Rattle.csp_policy.proofs.serialized.serialized_policies.Given as goal

-- those of the lines so far
abbrev pub invariant-loop-line : goal.invariant-loop-line
invariant-loop-line l = record {
  number : l.number ≡ length l.yielded;
  made : map serialized_said l.made.items ≡ delivered_from 1 (said l.yielded);
}
