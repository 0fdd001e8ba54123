use Rattle.std.proofs.Common.{◌≡◌, take}
use Rattle.csp_verdict.proofs.compiled_list.compile_all.Given as goal

-- the policies so far
abbrev pub invariant-loop-policy : goal.invariant-loop-policy
invariant-loop-policy l = l.made.items ≡ take l.policy-index l.policies
