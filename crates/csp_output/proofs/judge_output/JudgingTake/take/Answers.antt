use Rattle.std.proofs.Common.{◌||◌, ◌∙◌, ℕ, List, ap}
use Rattle.csp_output.specs.declared.judge_output.Judging.{Judging}
use Rattle.csp_output.proofs.Judging.{judged_more}
use Rattle.csp_output.proofs.judge_output.JudgingTake.take.Goals as goal

pub returns-clause-took : goal.returns-clause-took
returns-clause-took c = λ first before whole taken number of_it list is.
    let j : Judging = c.args.self.now in
    let Make : List ℕ → Judging =
    λ t. record { list = j.list; lines = t; blocked = j.blocked || c.in_ok-verdict.verdict.blocked } in
    ap Make c.in_ok-push.ensures
    ∙ judged_more list j c.args.number c.in_ok-verdict.verdict before c.args.request whole (taken list is) number
    c.in_ok-verdict.ensures.verdict of_it
