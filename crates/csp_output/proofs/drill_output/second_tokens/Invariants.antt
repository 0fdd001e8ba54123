use Rattle.std.proofs.Common.{◌≡◌}
use Rattle.csp_output.specs.Drills.{second_token, tokens_up_to}
use Rattle.csp_output.proofs.drill_output.second_tokens.Given as goal

abbrev pub invariant-loop-place : goal.invariant-loop-place
invariant-loop-place l = l.tokens ≡ tokens_up_to second_token l.place
