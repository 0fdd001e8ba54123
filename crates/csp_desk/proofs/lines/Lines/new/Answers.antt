-- No violation has no line.
use Rattle.std.proofs.Common.{refl}
use Rattle.csp_desk.specs.Texts.{lines_text}
use Rattle.csp_desk.proofs.lines.Lines.new.Goals as goal

pub invariant_of-result : goal.invariant_of-result
unfolding lines_text
invariant_of-result c = rw (c.new.ensures, c.new-2.ensures) refl
