-- The lines by the counts are those of the violations.
use Rattle.std.proofs.Common.{◌≡◌, ℕ, List, subst}
use Rattle.std.specs.Prelude.{IfOk}
use Rattle.csp_desk.proofs.Counting.{tally_text-by_counts}
use Rattle.csp_desk.proofs.counts.tally_text.Goals as goal

pub returns : goal.returns
returns c =
    let same = tally_text-by_counts c.args.held.now c.counts_of.result c.counts_of.ensures in
    subst (λ (told : List ℕ). IfOk c.counts_text.result (λ text. text ≡ told)) same c.counts_text.ensures
