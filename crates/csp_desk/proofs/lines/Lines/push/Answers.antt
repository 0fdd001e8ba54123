-- The line of one violation more.
use Rattle.std.proofs.Common.{◌++◌, ◌∙◌, ap}
use Rattle.csp_desk.specs.Texts.{report_line}
use Rattle.csp_desk.proofs.Latest.{lines_text-then}
use Rattle.csp_desk.proofs.lines.Lines.push.Goals as goal

pub invariant_of-self-2 : goal.invariant_of-self-2
invariant_of-self-2 c =
    rw (c.then-self-inside.ensures, lines_text-then _ c.args.violation.now)
    (c.in_ok-push.ensures.ok ∙ ap (λ text. text ++ report_line c.args.violation.now) c.self.invariant)
