use Rattle.csp_output.proofs.Lessons.{learnt_more}
use Rattle.csp_output.proofs.learn_output.LogTake.take.Goals as goal

pub returns-clause-took : goal.returns-clause-took
returns-clause-took c = λ first before whole taken number of_it nothing.
    learnt_more c.push.new.self before c.args.request whole (c.in_ok-push.ensures before (taken nothing) number) of_it
