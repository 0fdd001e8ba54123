use Rattle.csp_learn.proofs.LogLaws.{more_made}
use Rattle.csp_learn.proofs.directives.policy_for.Goals as goal

pub loop-directive-preserved : goal.loop-directive-preserved
loop-directive-preserved c =
    more_made c.args.needs.now.keys _ _ _ _ _ c.loop-directive-test.true c.loop-directive.invariant c.in_ok-add_needed.ensures
