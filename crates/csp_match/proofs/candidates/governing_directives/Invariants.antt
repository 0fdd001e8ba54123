use Rattle.std.proofs.Common.{◌≡◌, ◌++◌, map, drop, filter}
use Rattle.csp_match.specs.Candidates.{can_govern}
use Rattle.csp_match.proofs.candidates.governing_directives.Given as goal

-- what is kept so far, and what the rest gives, is what all give
abbrev pub invariant-loop-directive : goal.invariant-loop-directive
invariant-loop-directive l =
    map (λ d. d.now) l.made.items ++ filter can_govern (drop l.directive-index l.directives)
    ≡ filter can_govern l.directives
