use Rattle.std.proofs.Common.{sym, subst, arith}
use Rattle.csp_model.specs.Policies.{IsReadable}
use Rattle.csp_output.proofs.DrillLists.{first_readable, second_readable}
use Rattle.csp_output.proofs.drill_output.drill.Goals as goal

pub compare-requires-clause-first : goal.compare-requires-clause-first
compare-requires-clause-first c =
    subst IsReadable (sym c.in_ok-first.ensures) (first_readable c.args.pairs (omega arith))

pub compare-requires-clause-second : goal.compare-requires-clause-second
compare-requires-clause-second c =
    subst IsReadable (sym c.in_ok-second.ensures) (second_readable c.args.pairs (omega arith))
