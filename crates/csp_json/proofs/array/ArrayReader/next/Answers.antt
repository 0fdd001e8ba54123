use Rattle.std.proofs.Common.{◌≡◌, ◌∙◌, sym, ap}
use Rattle.csp_json.specs.Arrays.{coming, items_left}
use Rattle.csp_json.proofs.Items.{closed_left, failed_left}
use Rattle.csp_json.proofs.array.ArrayReader.next.Goals as goal

pub returns-in-Closed-clause-item : goal.returns-in-Closed-clause-item
returns-in-Closed-clause-item c =
    let is = sym c.self.view_is ∙ ap (λ s. coming s c.self.inside.reader) c.in-Closed.is in
    (ap items_left is ∙ closed_left, is)

pub returns-in-Failed-clause-not_json : goal.returns-in-Failed-clause-not_json
returns-in-Failed-clause-not_json c = λ refused.
    let is = sym c.self.view_is ∙ ap (λ s. coming s c.self.inside.reader) c.in-Failed.is in
    (ap items_left is ∙ failed_left, is)
