use Rattle.std.proofs.Common.{◌≡◌, take}
use Rattle.csp_tidy.specs.Candidates.{change_at, directive_without}
use Rattle.csp_tidy.proofs.without.policy_without.Given as goal

abbrev pub invariant-loop-number : goal.invariant-loop-number
invariant-loop-number l =
    l.directives ≡ take l.number (change_at (directive_without l.token) l.place l.policy.directives)
