use Rattle.std.proofs.Common.{rules}
use Rattle.std.specs.Prelude.{◌==◌}
use Rattle.std.proofs.lemmas.Iterator.{items_from_drains}
use Rattle.std.proofs.lemmas.Iterator.Splits.{YieldsList-from_slice_split}
use Rattle.csp_model.specs.Ascii.{code}
use Rattle.csp_model.proofs.Labels.{last_shown}
use Rattle.csp_model.proofs.domain.last_label.Goals as goal

pub returns-in-Some : goal.returns-in-Some
returns-in-Some c =
    let ran = c.in-Some.ensures.ran in
    last_shown ran.0 _ c.in-Some.label
    (items_from_drains ran.0 (ran.1.1.0, ran.1.1.1, λ _. (ran.1.0, ran.1.1.2)) (YieldsList-from_slice_split _ (λ b. b == code ".") c.args.text.now
    c.split.ensures.rest c.split.ensures.done c.split.ensures.closure (λ x b q k. search rules)))
    ran.2
