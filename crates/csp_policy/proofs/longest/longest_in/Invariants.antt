use Rattle.std.proofs.Common.{◌≡◌, ◌∷◌, length, drop, max}
use Rattle.std.specs.List.{flat_map, fold}
use Rattle.csp_policy.specs.Types.{Directive}
use Rattle.csp_policy.proofs.longest.longest_in.Given as goal

abbrev pub invariant-loop-directive : goal.invariant-loop-directive
invariant-loop-directive l = fold (λ n text. max n (length text)) l.longest (flat_map (λ (d : Directive). d.name ∷ d.tokens) (drop l.directive-index l.directives))
    ≡ fold (λ n text. max n (length text)) l.fn.longest (flat_map (λ (d : Directive). d.name ∷ d.tokens) l.directives)
