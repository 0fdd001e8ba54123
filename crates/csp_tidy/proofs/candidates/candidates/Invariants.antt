use Rattle.std.proofs.Common.{◌≡◌, ◌++◌, drop}
use Rattle.csp_tidy.specs.Candidates.{policy_candidates}
use Rattle.csp_tidy.proofs.candidates.candidates.Given as goal

abbrev pub invariant-loop-policy : goal.invariant-loop-policy
invariant-loop-policy l =
    (l.number ≡ l.policy-index)
    × (l.places.items ++ policy_candidates l.number (drop l.policy-index l.policy-items)
    ≡ policy_candidates 0 l.list.policies)
