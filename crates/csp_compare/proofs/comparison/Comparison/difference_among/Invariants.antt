use Rattle.std.proofs.Common.{◌≡◌}
use Rattle.csp_compare.specs.Differences.{AreIncluded, IsIncludedBelow}
use Rattle.csp_compare.proofs.comparison.Comparison.difference_among.Given as goal

abbrev pub invariant-loop-number : goal.invariant-loop-number
invariant-loop-number l =
    (l.walker ≡ l.fn.walker) × AreIncluded l.self l.known × IsIncludedBelow l.self l.effective l.number
