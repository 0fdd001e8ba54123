use Rattle.std.proofs.Common.{◌≡◌, ◌++◌, drop}
use Rattle.csp_output.specs.Explanations.{check_text, policies_from}
use Rattle.csp_output.proofs.reason_lines.push_check.Given as goal

-- what is written, and what is still to be written
abbrev pub invariant-loop-number : goal.invariant-loop-number
invariant-loop-number l =
    l.text.items ++ policies_from l.number (drop l.number l.policies) l.check
    ≡ l.fn.text.items ++ check_text l.policies l.check
