use Rattle.std.proofs.Common.{◌≡◌}
use Rattle.csp_compare.proofs.comparison.Comparison.probe_shape.Given as goal

abbrev pub invariant-loop-policy : goal.invariant-loop-policy
invariant-loop-policy l = l.walker ≡ l.fn.walker
