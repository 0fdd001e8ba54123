use Rattle.std.proofs.Common.{◌≡◌, drop}
use Rattle.csp_compare.specs.Differences.{AreIncluded, effective_names}
use Rattle.csp_compare.proofs.Entries.{IsSoFar}
use Rattle.csp_compare.proofs.comparison.Comparison.differences.Given as goal

abbrev pub invariant-loop-directive : goal.invariant-loop-directive
invariant-loop-directive l =
    (l.walker ≡ l.fn.walker) × AreIncluded l.self l.known
    × IsSoFar l.self.lists.first.now l.self.lists.second.now l.differences (drop l.directive-index effective_names)
