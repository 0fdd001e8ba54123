use Rattle.std.proofs.Common.{◌≡◌, take}
use Rattle.csp_tidy.specs.Candidates.{change_at, policy_without}
use Rattle.csp_tidy.proofs.without.without.Given as goal

abbrev pub invariant-loop-number : goal.invariant-loop-number
invariant-loop-number l =
    l.policies ≡ take l.number (change_at (policy_without l.place.directive l.place.token) l.place.policy l.list.policies)
