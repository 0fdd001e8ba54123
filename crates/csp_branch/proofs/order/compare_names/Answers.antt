use Rattle.std.proofs.Common.{◌∙◌, sym}
use Rattle.csp_branch.proofs.PartOrder.{one_part, apart_by, within_part}
use Rattle.csp_branch.proofs.order.compare_names.Goals as goal

pub compare_on_part-requires : goal.compare_on_part-requires
compare_on_part-requires c =
    one_part c.args.one.now c.args.other.now c.part.result c.part-2.result c.part_number-ours.result c.part_number-theirs.result
    c.part.ensures c.part-2.ensures c.part_number-ours.ensures c.part_number-theirs.ensures c.if-ours-theirs.true

pub returns-then-ours-theirs : goal.returns-then-ours-theirs
returns-then-ours-theirs c =
    c.compare_on_part.ensures
    ∙ sym (within_part c.args.one.now c.args.other.now
    (one_part c.args.one.now c.args.other.now c.part.result c.part-2.result c.part_number-ours.result c.part_number-theirs.result
    c.part.ensures c.part-2.ensures c.part_number-ours.ensures c.part_number-theirs.ensures c.if-ours-theirs.true))

pub returns-else-ours-theirs : goal.returns-else-ours-theirs
returns-else-ours-theirs c =
    apart_by c.args.one.now c.args.other.now c.part.result c.part-2.result c.part_number-ours.result c.part_number-theirs.result _
    c.part.ensures c.part-2.ensures c.part_number-ours.ensures c.part_number-theirs.ensures c.if-ours-theirs.false c.cmp.ensures
