use Rattle.csp_model.specs.Validity.{IsValidCheck}
use Rattle.csp_request.specs.Described.{ancestor}
use Rattle.csp_request.proofs.Forms.{each_turn, All-one_more}
use Rattle.csp_request.proofs.description.ancestor_checks.Goals as goal

pub loop-item-preserved : goal.loop-item-preserved
loop-item-preserved c =
    let checks = c.loop-item.checks in
    let check = c.in_ok-ancestor.field-0 in
    rw c.in_ok-push.ensures.ok record {
      ancestors = each_turn ancestor c.args.field c.args.items.now c.loop-item.item-index c.item-item.result checks check c.loop-item-test.true c.item-item.is c.in_ok-ancestor.ensures.ancestor c.loop-item.invariant.ancestors;
      valid = All-one_more IsValidCheck checks check c.loop-item.invariant.valid c.in_ok-ancestor.ensures.valid;
    }
