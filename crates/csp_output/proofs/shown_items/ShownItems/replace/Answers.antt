use Rattle.std.proofs.Common.{◌∙◌, sym}
use Rattle.std.proofs.lemmas.Slice.Eq.{slice_eq-Decides}
use Rattle.csp_output.proofs.SameItems.{same_decides}
use Rattle.csp_output.proofs.shown_items.ShownItems.replace.Goals as goal

pub returns-then-eq : goal.returns-then-eq
returns-then-eq c =
    sym c.self.view_is
    ∙ (slice_eq-Decides same_decides c.self.inside.items c.args.items c.eq.result c.eq.ensures).0 c.if-eq.true
