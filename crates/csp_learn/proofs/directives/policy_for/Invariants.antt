use Rattle.std.proofs.Common.{◌≡◌, ◌∷◌, take}
use Rattle.std.specs.List.{filter_map}
use Rattle.csp_learn.specs.Policies.{default_none, directive_for}
use Rattle.csp_learn.proofs.directives.policy_for.Given as goal

abbrev pub invariant-loop-directive : goal.invariant-loop-directive
invariant-loop-directive l = l.directives ≡ default_none ∷ filter_map (directive_for l.needs.keys) (take l.directive-index l.directive-items)
