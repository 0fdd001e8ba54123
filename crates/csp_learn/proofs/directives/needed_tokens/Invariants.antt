use Rattle.std.proofs.Common.{◌≡◌, ◌++◌}
use Rattle.csp_learn.specs.Policies.{tokens_for}
use Rattle.csp_learn.proofs.directives.needed_tokens.Given as goal

-- what the needs that are left give, behind what is made so far, is what all needs give
abbrev pub invariant-loop-need : goal.invariant-loop-need
invariant-loop-need l = l.tokens ++ tokens_for l.directive l.need-iterator ≡ tokens_for l.directive l.needs.keys
