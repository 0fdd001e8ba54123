use Rattle.csp_output.proofs.Holding.{held_more}
use Rattle.csp_output.proofs.report_output.HeldTake.take.Goals as goal

pub returns-clause-took : goal.returns-clause-took
returns-clause-took c = λ first before whole taken number of_it. (
  taken.0,
  λ nothing. held_more c.args.self.now.list c.args.self.now.requests c.push.new.self before c.args.request whole
      c.in_ok-push.ensures.ok (taken.1 nothing) of_it,
)
