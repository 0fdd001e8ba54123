use Rattle.std.proofs.Common.{take}
use Rattle.std.specs.List.{AllZip}
use Rattle.csp_answer.specs.Naming.{IsDirectiveNamed}
use Rattle.csp_answer.proofs.naming.NamedPolicy.new.Given as goal

abbrev pub invariant-loop-directive : goal.invariant-loop-directive
invariant-loop-directive l = AllZip (IsDirectiveNamed l.names l.policy.origin) (take l.directive-index l.directive-items) l.directives
