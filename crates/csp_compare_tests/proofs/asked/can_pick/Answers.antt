use Rattle.csp_compare_tests.proofs.AskedParts.{asked_of_parts}
use Rattle.csp_compare_tests.proofs.asked.can_pick.Goals as goal

pub returns : goal.returns
returns c =
    let same = asked_of_parts c.args.vocabulary.now.hashes c.args.cell.now.literals c.placing.result.now c.others.result.now c.placing.ensures.placing c.others.ensures.others in
    ((λ passes. same.0 (c.can_pick_among.ensures.0 passes)), (λ asked. c.can_pick_among.ensures.1 (same.1 asked)))
