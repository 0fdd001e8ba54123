use Rattle.std.proofs.Common.{◌≡◌, ◌++◌, take}
use Rattle.csp_policy.specs.HeaderLines.{header_lines}
use Rattle.csp_output.proofs.tidy_output.push_headers.Given as goal

abbrev pub invariant-loop-policy : goal.invariant-loop-policy
invariant-loop-policy l = l.text.items ≡ l.fn.text.items ++ header_lines (take l.policy-index l.policies)
