use Rattle.std.proofs.Common.{◌≡◌, ◌++◌, drop, map}
use Rattle.std.specs.List.{flat_map}
use Rattle.csp_model.specs.Verdict.{items_of, judged_checks}
use Rattle.csp_verdict.specs.Listed.{list_of}
use Rattle.csp_verdict.proofs.verdict.judged_items.Given as goal

-- with the items of the other checks that are judged, what is there is the items of all
abbrev pub invariant-loop-check : goal.invariant-loop-check
invariant-loop-check g l =
    let list = list_of (map g.P.Judge.seen l.policies) in
    l.items ++ flat_map (items_of list) (judged_checks list (drop l.check-index l.checks))
    ≡ flat_map (items_of list) (judged_checks list l.checks)
