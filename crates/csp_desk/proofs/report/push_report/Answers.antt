use Rattle.std.proofs.Common.{◌∙◌}
use Rattle.csp_desk.proofs.Parts.{parts_behind}
use Rattle.csp_desk.proofs.report.push_report.Goals as goal

pub returns-in-Ok-clause-ok : goal.returns-in-Ok-clause-ok
returns-in-Ok-clause-ok c =
    parts_behind _ _ _ _ _ (rw c.as_str.ensures.text at c.in_ok-push_front.ensures.ok)
    (c.as_slice.ensures ∙ c.in_ok-ending.ensures) c.in-Ok.ensures.items
