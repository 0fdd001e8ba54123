use Rattle.std.proofs.Common.{◌∙◌, sym}
use Rattle.csp_cell.proofs.Parts.{adds_inserted}
use Rattle.csp_cell.proofs.cell.add.Goals as goal

pub returns-in_ok-insert : goal.returns-in_ok-insert
returns-in_ok-insert c =
    rw c.in_ok-insert.ensures.items
    (adds_inserted c.args.placing.now.items c.args.others.now.items c.args.literal c.place_for-place.result
    (sym c.is_placing.ensures ∙ c.if-is_placing.false))
