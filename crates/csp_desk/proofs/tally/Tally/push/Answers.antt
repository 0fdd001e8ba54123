-- The counts of one violation more.
use Rattle.std.proofs.Common.{◌∙◌, sym}
use Rattle.std.proofs.lemmas.Result.{err_from_is_err_and}
use Rattle.csp_desk.proofs.Counting.{count_is, counts_then}
use Rattle.csp_desk.proofs.tally.Tally.push.Goals as goal

pub invariant_of-self-2 : goal.invariant_of-self-2
invariant_of-self-2 c =
    rw c.then-self-inside.ensures
    (c.in_ok-count.ensures.ok
    ∙ counts_then c.self.inside.history.items c.args.violation.now c.self.inside.counts c.self.invariant)

pub returns-in_err-count-clause-full : goal.returns-in_err-count-clause-full
returns-in_err-count-clause-full c =
    let is = count_is c.self.inside.history.items c.self.inside.counts c.args.violation.now.effective c.self.invariant in
    let full = sym is ∙ c.in_err-count.ensures.full in
    rw ((err_from_is_err_and c.from_residual.result c.from_residual.ensures.1).1, sym c.self.view_is) full
