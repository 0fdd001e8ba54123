use Rattle.std.proofs.Common.{◌≡◌, ◌∷◌, ◌++◌, drop, string_bytes}
use Rattle.std.specs.List.{flat_map}
use Rattle.csp_model.specs.Policies.{directive_text}
use Rattle.csp_policy.proofs.print.push_directive.Given as goal

-- what is printed, and the tokens that are left, are what was printed before and the directive
abbrev pub invariant-loop-token : goal.invariant-loop-token
invariant-loop-token l = string_bytes l.text ++ flat_map (λ token. 32 ∷ token) (drop l.token-index l.token-items) ≡ string_bytes l.fn.text ++ directive_text l.directive
