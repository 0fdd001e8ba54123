use Rattle.std.proofs.Common.{◌≡◌, ◌++◌, drop}
use Rattle.std.specs.List.{flat_map}
use Rattle.csp_answer.specs.Naming.{policy_atoms}
use Rattle.csp_answer.proofs.collecting.add_policies.Given as goal

abbrev pub invariant-loop-policy : goal.invariant-loop-policy
invariant-loop-policy l = l.atoms ++ flat_map policy_atoms (drop l.policy-index l.policies) ≡ l.fn.atoms ++ flat_map policy_atoms l.policies
