use Rattle.csp_request.specs.Described.{attribute}
use Rattle.csp_request.proofs.Forms.{each_turn}
use Rattle.csp_request.proofs.element.attributes.Goals as goal

pub loop-item-preserved : goal.loop-item-preserved
loop-item-preserved c =
    rw c.in_ok-push.ensures.ok (each_turn attribute c.args.field c.args.items.now c.loop-item.item-index c.item-item.result c.loop-item.found c.in_ok-attribute.field-0 c.loop-item-test.true c.item-item.is c.in_ok-attribute.ensures c.loop-item.invariant)
