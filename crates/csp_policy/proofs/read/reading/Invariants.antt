use Rattle.std.proofs.Common.{◌≡◌, ◌++◌, ◌≤◌, drop, map}
use Rattle.std.specs.List.{flat_map}
use Rattle.csp_policy.specs.Delivered.{serialized_said}
use Rattle.csp_policy.specs.ReadingLines.{told_line, reading_text}
use Rattle.csp_policy.specs.Told.{told_from}
use Rattle.csp_policy.proofs.read.reading.Given as goal

-- the text, and what is told of the policies that are left, are the whole
abbrev pub invariant-loop-policy : goal.invariant-loop-policy
invariant-loop-policy l = record {
  few : l.number ≤ l.policy-index;
  text : l.text.items ++ flat_map told_line (told_from l.number (map serialized_said (drop l.policy-index l.policy-items)))
      ≡ reading_text l.bytes;
}
