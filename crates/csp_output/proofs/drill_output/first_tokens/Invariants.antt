use Rattle.std.proofs.Common.{◌≡◌}
use Rattle.csp_output.specs.Drills.{first_token, tokens_up_to}
use Rattle.csp_output.proofs.drill_output.first_tokens.Given as goal

abbrev pub invariant-loop-place : goal.invariant-loop-place
invariant-loop-place l = l.tokens ≡ tokens_up_to first_token l.place
