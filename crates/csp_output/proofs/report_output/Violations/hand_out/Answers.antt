use Rattle.std.proofs.Common.{sym}
use Rattle.csp_output.proofs.report_output.Violations.hand_out.Goals as goal

pub returns-clause-took : goal.returns-clause-took
returns-clause-took g c = rw (sym c.self.view_is) (rw c.as_slice.ensures at c.hand_out_each.ensures.took)

pub returns-clause-stopped : goal.returns-clause-stopped
returns-clause-stopped g c = rw (sym c.self.view_is) (rw c.as_slice.ensures at c.hand_out_each.ensures.stopped)
