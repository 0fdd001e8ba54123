use Rattle.std.proofs.Common.{◌≡◌, ◌++◌, drop}
use Rattle.std.specs.List.{filter}
use Rattle.csp_compare.specs.Differences.{effective_names}
use Rattle.csp_tidy.specs.Governed.{governs}
use Rattle.csp_tidy.proofs.governed.governed_names.Given as goal

abbrev pub invariant-loop-effective : goal.invariant-loop-effective
invariant-loop-effective l =
    l.names.items ++ filter (governs l.policy l.directive) (drop l.effective-index l.effective-items)
    ≡ filter (governs l.policy l.directive) effective_names
