use Rattle.std.proofs.Common.{◌≡◌, ◌++◌, drop}
use Rattle.std.specs.List.{flat_map}
use Rattle.csp_answer.specs.Naming.{directive_atoms}
use Rattle.csp_answer.proofs.collecting.add_directives.Given as goal

abbrev pub invariant-loop-directive : goal.invariant-loop-directive
invariant-loop-directive l = l.atoms ++ flat_map (directive_atoms l.policy.origin) (drop l.directive-index l.directive-items) ≡ l.fn.atoms ++ flat_map (directive_atoms l.policy.origin) l.policy.directives
