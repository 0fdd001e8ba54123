use Rattle.std.proofs.Common.{◌≡◌, ◌∷◌, length, drop, max}
use Rattle.std.specs.List.{flat_map, fold}
use Rattle.csp_model.specs.Policies.{longest_text}
use Rattle.csp_policy.specs.Types.{Directive, Policy}
use Rattle.csp_policy.proofs.longest.longest_text.Given as goal

abbrev pub invariant-loop-policy : goal.invariant-loop-policy
invariant-loop-policy l =
    fold (λ n text. max n (length text)) l.longest
    (flat_map (λ (p : Policy). flat_map (λ (d : Directive). d.name ∷ d.tokens) p.directives) (drop l.policy-index l.policies))
    ≡ longest_text l.policies
