use Rattle.std.proofs.Common.{◌∙◌, sym}
use Rattle.csp_answer.proofs.SameAnswer.{name_decides}
use Rattle.csp_answer.proofs.table.is_same_place.Goals as goal

pub returns : goal.returns
returns c is =
    let decided = (name_decides c.place.result c.place-2.result).0 (sym c.eq.ensures ∙ is) in
    sym c.place.ensures ∙ decided ∙ c.place-2.ensures
