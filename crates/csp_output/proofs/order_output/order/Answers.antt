use Rattle.std.proofs.Common.{ℕ, List, ap}
use Rattle.csp_order.specs.declared.relation.Relation.{Relation}
use Rattle.csp_output.specs.declared.built.Built.{Built}
use Rattle.csp_output.specs.declared.status.Status.TheVariants.{Clean}
use Rattle.csp_output.proofs.OrderWritten.{all_written, one_more, told_more, writable_at}
use Rattle.csp_output.proofs.order_output.order.Goals as goal

pub push_relation-requires : goal.push_relation-requires
push_relation-requires c =
    writable_at c.args.lists.now c.in_ok-relations.relations c.as_slice-relation-items.result.now
    c.loop-relation.relation-index c.relation-item.result c.as_slice-relation-items.ensures
    c.in_ok-relations.ensures.order.reasons c.loop-relation-test.true c.relation-item.is

pub loop-relation-preserved : goal.loop-relation-preserved
loop-relation-preserved c =
    let items : List Relation = c.as_slice-relation-items.result.now in
    let i : ℕ = c.loop-relation.relation-index in
    let r : Relation = c.relation-item.result in
    record {
      text = one_more items i r c.loop-relation.text.items c.push_relation.new.text.items c.loop-relation-test.true
          c.relation-item.is c.loop-relation.invariant.text c.in_ok-push_relation.ensures.text;
      read_back = told_more items i r c.loop-relation-test.true c.relation-item.is c.loop-relation.invariant.read_back
          c.in_ok-push_relation.ensures.read_back;
    }

pub returns : goal.returns
returns c =
    all_written c.args.lists.now c.in_ok-relations.relations c.as_slice-relation-items.result.now
    c.loop-relation.relation-index c.loop-relation.text.items _ c.as_slice-relation-items.ensures
    c.in_ok-relations.ensures.order c.loop-relation-test.false c.loop-relation.invariant.text
    c.loop-relation.invariant.read_back
    (ap (λ (t : List ℕ). let b : Built = record { status = Clean; text = t } in b) c.from_vec.ensures)
