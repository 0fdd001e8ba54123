use Rattle.std.proofs.Common.{◌∙◌, ◌+◌, ap, Some}
use Rattle.std.proofs.lemmas.List.{take_rest}
use Rattle.csp_pick.proofs.LastSegments.{found_last, none_last}
use Rattle.csp_pick.proofs.fresh.last_segment.Goals as goal

pub returns-in-Some : goal.returns-in-Some
returns-in-Some c =
    let text = c.as_bytes-text.result.now in
    ap Some (take_rest text (c.in-Some.slash + 1))
    ∙ found_last c.args.path.now text c.in-Some.slash (c.as_bytes-text.ensures.value ∙ c.as_str.ensures) c.in-Some.ensures

pub returns-in-None : goal.returns-in-None
returns-in-None c =
    none_last c.args.path.now c.as_bytes-text.result.now (c.as_bytes-text.ensures.value ∙ c.as_str.ensures) c.in-None.ensures
