use Rattle.std.proofs.Common.{ℕ, List}
use Rattle.csp_tidy.specs.declared.tidying.Needed.{Needed}
use Rattle.csp_output.proofs.Reasons.{one_more, told_more}
use Rattle.csp_output.proofs.tidy_output.push_reasons.Goals as goal

pub loop-entry-preserved : goal.loop-entry-preserved
loop-entry-preserved c =
    let items : List Needed = c.args.needed.now in
    let i : ℕ = c.loop-entry.entry-index in
    let r : Needed = c.entry-item.result in
    record {
      text = one_more c.args.list.now items i r c.args.text.now.items c.loop-entry.text.items
          c.push_reason.new.text.items c.loop-entry-test.true c.entry-item.is c.loop-entry.invariant.text
          c.in_ok-push_reason.ensures.text;
      read_back = told_more items i r c.loop-entry-test.true c.entry-item.is c.loop-entry.invariant.read_back
          c.in_ok-push_reason.ensures.read_back;
    }
