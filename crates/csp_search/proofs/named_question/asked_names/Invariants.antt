use Rattle.std.proofs.Common.{◌≡◌}
use Rattle.csp_search.proofs.AskedNames.{first_names}
use Rattle.csp_search.proofs.named_question.asked_names.Given as goal

abbrev pub invariant-loop-place : goal.invariant-loop-place
invariant-loop-place l = l.names.items ≡ first_names l.question l.place
