use Rattle.std.proofs.Common.{◌≡◌}
use Rattle.csp_compare.proofs.comparison.Comparison.probe_shapes.Given as goal

abbrev pub invariant-loop-number : goal.invariant-loop-number
invariant-loop-number l = l.walker ≡ l.fn.walker

abbrev pub invariant-loop-strange : goal.invariant-loop-strange
invariant-loop-strange l = l.walker ≡ l.fn.walker
