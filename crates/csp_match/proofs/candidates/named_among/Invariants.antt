use Rattle.std.proofs.Common.{◌≡◌, map, drop}
use Rattle.csp_model.specs.Governing as spec
use Rattle.csp_match.proofs.candidates.named_among.Given as goal

-- none of the directives so far has the name
abbrev pub invariant-loop-directive : goal.invariant-loop-directive
invariant-loop-directive l =
    spec.governor_named (map (λ d. d.now) (drop l.directive-index l.directives)) l.name
    ≡ spec.governor_named (map (λ d. d.now) l.directives) l.name
