use Rattle.std.proofs.Common.{◌≡◌, ◌++◌, drop}
use Rattle.csp_tidy.specs.Candidates.{directive_candidates}
use Rattle.csp_tidy.proofs.candidates.push_directives.Given as goal

abbrev pub invariant-loop-directive : goal.invariant-loop-directive
invariant-loop-directive l =
    (l.number ≡ l.directive-index)
    × (l.places.items ++ directive_candidates l.policy l.number (drop l.directive-index l.directives)
    ≡ l.fn.places.items ++ directive_candidates l.policy 0 l.directives)
