use Rattle.std.proofs.Common.{◌∙◌, ap}
use Rattle.csp_branch.specs.Walks.{at_root}
use Rattle.csp_checker.specs.Walk.{atoms_of}
use Rattle.csp_checker.proofs.Judged.{fit_kept, judged, takes_kept}
use Rattle.csp_checker.proofs.walk.first_bad.Goals as goal

pub walk-requires-clause-fit : goal.walk-requires-clause-fit
walk-requires-clause-fit c = fit_kept c.args.asked.now c.go_to_root.new.self c.args.walker.now (ap at_root c.go_to_root.ensures) c.requires.fit

pub walk-requires-clause-takes : goal.walk-requires-clause-takes
walk-requires-clause-takes c =
    takes_kept c.go_to_root.new.self c.args.walker.now (atoms_of c.args.nodes.now) (ap at_root c.go_to_root.ensures) c.requires.takes

pub returns-clause-bad : goal.returns-clause-bad
returns-clause-bad c = λ pair for pre.
    let fit = fit_kept c.args.asked.now c.go_to_root.new.self c.args.walker.now (ap at_root c.go_to_root.ensures) c.requires.fit in
    c.walk.ensures.bad ∙ judged c.args.asked.now c.go_to_root.new.self fit pair c.args.tree.now for c.args.nodes.now pre

pub returns-clause-fit : goal.returns-clause-fit
returns-clause-fit c =
    fit_kept c.args.asked.now c.walk.new.walker c.args.walker.now (c.walk.ensures.kept ∙ ap at_root c.go_to_root.ensures) c.requires.fit
