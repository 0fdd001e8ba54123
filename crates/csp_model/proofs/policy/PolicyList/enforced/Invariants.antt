use Rattle.std.proofs.Common.{◌≡◌, ◌++◌, drop}
use Rattle.csp_model.specs.Verdict.{enforced, enforced_from}
use Rattle.csp_model.proofs.policy.PolicyList.enforced.Given as goal

-- the numbers so far, and those of the policies that are left
abbrev pub invariant-loop-policy : goal.invariant-loop-policy
invariant-loop-policy l = record {
  at : l.number ≡ l.policy-index;
  all : l.numbers.items ++ enforced_from l.number (drop l.policy-index l.self.policies) ≡ enforced l.self;
}
