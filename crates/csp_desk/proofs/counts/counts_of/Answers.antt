-- Each violation is counted behind those before it.
use Rattle.std.proofs.Common.{◌∙◌, ap, arith, take}
use Rattle.csp_desk.specs.Texts.{counts_of}
use Rattle.csp_desk.proofs.Counting.{count_below, counts_then}
use Rattle.csp_desk.proofs.Turns.{next_of}
use Rattle.csp_desk.proofs.counts.counts_of.Goals as goal

pub overflow_add-counts : goal.overflow_add-counts
overflow_add-counts c =
    let below = count_below c.args.held.now c.loop-violation.counts c.violation-item.result.effective c.loop-violation.violation-index
    c.loop-violation.invariant c.loop-violation-test.true in
    let fits = c.well_formed.0.0 in
    rw c.place_of.ensures (omega (arith, below, fits))

pub loop-violation-preserved : goal.loop-violation-preserved
loop-violation-preserved c =
    rw c.place_of.ensures
    (counts_then (take c.loop-violation.violation-index c.args.held.now) c.violation-item.result c.loop-violation.counts c.loop-violation.invariant
    ∙ ap counts_of (next_of c.args.held.now c.loop-violation.violation-index c.violation-item.result c.loop-violation-test.true c.violation-item.is))
