-- The lines of the last violations are what is told of all.
use Rattle.std.proofs.Common.{◌≡◌, ℕ, List, ◌∙◌, ap, subst}
use Rattle.std.specs.Prelude.{IfOk}
use Rattle.csp_desk.specs.Recent.{LimitedHistory}
use Rattle.csp_desk.specs.Texts.{recent_text}
use Rattle.csp_desk.proofs.Latest.{recent_text-latest}
use Rattle.csp_desk.proofs.recent.RecentReporter.text.Goals as goal

pub returns : goal.returns
returns c =
    let same = recent_text-latest c.self.inside.limit c.self.inside.history.items c.self.inside.earlier c.self.inside.latest.items c.self.invariant
    ∙ ap (λ (r : LimitedHistory). recent_text r.limit r.held) c.self.view_is in
    subst (λ (told : List ℕ). IfOk c.latest_text.result (λ text. text ≡ told)) same c.latest_text.ensures
