use Rattle.std.proofs.Common.{◌∙◌}
use Rattle.csp_output.proofs.Explaining.{explained_more}
use Rattle.csp_output.proofs.why_output.ExplanationTake.take.Goals as goal

pub returns-clause-took : goal.returns-clause-took
returns-clause-took c = λ first before whole taken number of_it list is.
    c.in_ok-push.ensures
    ∙ explained_more list c.args.self.now c.args.number before c.args.request whole (taken list is) number of_it
