use Rattle.std.proofs.Common.{◌≡◌, ◌++◌, drop, map}
use Rattle.std.specs.List.{flat_map}
use Rattle.csp_model.specs.Verdict.{check_violations, judged_checks}
use Rattle.csp_verdict.specs.Listed.{list_of}
use Rattle.csp_verdict.proofs.violation.violations_of.Given as goal

-- with the violations of the other checks that are judged, what is there is the violations of all
abbrev pub invariant-loop-check : goal.invariant-loop-check
invariant-loop-check g l =
    let list = list_of (map g.P.Judge.seen l.policies) in
    l.found ++ flat_map (check_violations list l.described) (judged_checks list (drop l.check-index l.described.checks))
    ≡ flat_map (check_violations list l.described) (judged_checks list l.described.checks)
