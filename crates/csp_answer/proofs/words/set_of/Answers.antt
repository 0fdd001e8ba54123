use Rattle.std.specs.BTreeSet.{contains_by}
use Rattle.std.specs.Ordering.{nat_cmp}
use Rattle.csp_answer.proofs.NamesIn.{one_more_in}
use Rattle.csp_answer.proofs.words.set_of.Goals as goal

pub loop-name-preserved : goal.loop-name-preserved
loop-name-preserved c = λ n.
    one_more_in c.args.names.now c.loop-name.name-index n (contains_by (nat_cmp n) c.loop-name.set) _ c.loop-name-test.true
    (c.in_ok-insert.ensures.updates.0 n) (c.loop-name.invariant n)
