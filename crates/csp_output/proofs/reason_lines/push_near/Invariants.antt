use Rattle.std.proofs.Common.{◌≡◌, ◌++◌, take}
use Rattle.csp_output.specs.Explanations.{near_text}
use Rattle.csp_output.proofs.reason_lines.push_near.Given as goal

abbrev pub invariant-loop-found : goal.invariant-loop-found
invariant-loop-found l = l.text.items ≡ l.fn.text.items ++ near_text l.tokens (take l.found-index l.near)
