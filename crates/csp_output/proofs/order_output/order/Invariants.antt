use Rattle.std.proofs.Common.{◌≡◌, All, take}
use Rattle.std.specs.List.{flat_map}
use Rattle.csp_order.specs.declared.relation.Relation.{Relation}
use Rattle.csp_output.specs.Orders.{IsReadBack, relation_text}
use Rattle.csp_output.proofs.order_output.order.Given as goal

abbrev pub invariant-loop-relation : goal.invariant-loop-relation
invariant-loop-relation l = record {
  text : l.text.items ≡ flat_map relation_text (take l.relation-index l.relation-items);
  read_back : All (λ (r : Relation). IsReadBack r.because) (take l.relation-index l.relation-items);
}
