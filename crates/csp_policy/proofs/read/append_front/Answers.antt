use Rattle.std.proofs.Common.{◌∙◌, ap, ◌++◌, map}
use Rattle.std.proofs.lemmas.Result.{IfOk-weaker}
use Rattle.csp_policy.specs.Delivered.{piece_said, serialized_said}
use Rattle.csp_policy.specs.ReadingLines.{told_line}
use Rattle.csp_policy.specs.Told.{Told, directives_in}
use Rattle.csp_policy.proofs.Written.{none_told}
use Rattle.csp_policy.proofs.read.append_front.Goals as goal

pub returns-else-has_kept : goal.returns-else-has_kept
returns-else-has_kept c =
    IfOk-weaker c.append_dropped.result _ _
    (λ made is.
    is ∙ ap (λ (t : Told). c.args.text.items ++ told_line t)
    (none_told c.args.number (serialized_said c.args.policy.now) (directives_in (map piece_said c.args.pieces.now))
    c.trim.result.now c.has_kept.result c.has_kept.ensures c.if-has_kept.false c.trim.ensures))
    c.append_dropped.ensures
