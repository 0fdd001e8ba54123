use Rattle.csp_output.proofs.DifferWritten.{one_more, told_more}
use Rattle.csp_output.proofs.differ_output.entries_text.Goals as goal

pub loop-difference-preserved : goal.loop-difference-preserved
loop-difference-preserved c =
    let items = c.args.differences.now in
    let i = c.loop-difference.difference-index in (
      one_more c.args.second.now items i c.difference-item.result c.loop-difference.text.items c.push_entry.new.text.items c.loop-difference-test.true
          c.difference-item.is c.loop-difference.invariant.0 c.in_ok-push_entry.ensures.text,
      told_more items i c.difference-item.result c.loop-difference-test.true c.difference-item.is c.loop-difference.invariant.1
          c.in_ok-push_entry.ensures.read_back,
    )
