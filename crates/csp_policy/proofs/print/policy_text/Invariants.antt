use Rattle.std.proofs.Common.{◌≡◌, ◌++◌, drop, string_bytes, codes}
use Rattle.std.specs.List.{flat_map}
use Rattle.csp_model.specs.Policies.{directive_text, policy_text}
use Rattle.csp_policy.proofs.print.policy_text.Given as goal

-- what is printed, and the directives that are left, are the policy
abbrev pub invariant-loop-directive : goal.invariant-loop-directive
invariant-loop-directive l = string_bytes l.text ++ flat_map (λ d. codes "; " ++ directive_text d) (drop l.directive-index l.others) ≡ policy_text l.policy
