use Rattle.std.proofs.Common.{◌≡◌, ◌++◌, drop, map}
use Rattle.std.specs.List.{filter_map}
use Rattle.csp_verdict.specs.Reported.{violation_at}
use Rattle.csp_verdict.proofs.violation.push_reported.Given as goal

-- with the violations for the other items, what is there is those for all
abbrev pub invariant-loop-item : goal.invariant-loop-item
invariant-loop-item g l =
    let at = violation_at (map g.P.Judge.seen l.policies) l.described l.check in
    l.found ++ filter_map at (drop l.item-index l.items) ≡ l.initial.found ++ filter_map at l.items
