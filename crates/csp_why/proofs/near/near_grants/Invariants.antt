use Rattle.std.proofs.Common.{◌≡◌, ◌++◌, drop}
use Rattle.csp_why.specs.Near as spec
use Rattle.csp_why.proofs.near.near_grants.Given as goal

-- what was found so far, and what is still to be found
abbrev pub invariant-loop-token : goal.invariant-loop-token
invariant-loop-token l =
    l.near ++ spec.near_from spec.near_grant l.token (drop l.token l.tokens)
    ≡ spec.near_from spec.near_grant 0 l.tokens
