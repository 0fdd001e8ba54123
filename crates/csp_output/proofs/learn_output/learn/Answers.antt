use Rattle.csp_output.proofs.Lessons.{few_learnt}
use Rattle.csp_output.proofs.learn_output.learn.Goals as goal

pub returns-clause-output : goal.returns-clause-output
returns-clause-output c =
    few_learnt c.args.origin.now c.args.learning c.in_ok-learnt.learnt c.in_ok-print_learnt.field-0
    c.in_ok-learnt.ensures.few c.in_ok-learnt.ensures.policy c.in_ok-learnt.ensures.left c.in_ok-print_learnt.ensures
