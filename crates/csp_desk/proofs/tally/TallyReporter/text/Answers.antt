-- The lines by the counts are those of the violations.
use Rattle.std.proofs.Common.{◌≡◌, ℕ, List, ◌∙◌, ap, subst}
use Rattle.std.specs.Prelude.{IfOk}
use Rattle.csp_desk.specs.Texts.{tally_text}
use Rattle.csp_desk.proofs.Counting.{tally_text-by_counts}
use Rattle.csp_desk.proofs.tally.TallyReporter.text.Goals as goal

pub returns : goal.returns
returns c =
    let same = tally_text-by_counts c.self.inside.history.items c.self.inside.counts c.self.invariant ∙ ap tally_text c.self.view_is in
    subst (λ (told : List ℕ). IfOk c.counts_text.result (λ text. text ≡ told)) same c.counts_text.ensures
