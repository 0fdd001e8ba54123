-- The sections of all reporters are the text of the desk.
use Rattle.std.proofs.Common.{◌∙◌, ap}
use Rattle.std.specs.List.{flat_map}
use Rattle.std.proofs.lemmas.List.{take_all}
use Rattle.csp_desk.proofs.DeskTexts.{desk_text-map}
use Rattle.csp_desk.proofs.desk.sections_of.Goals as goal

pub returns : goal.returns
returns g c =
    rw (← desk_text-map)
    (c.loop-reporter.invariant
    ∙ ap (flat_map _) (take_all c.loop-reporter.reporter-index c.args.desk.now c.loop-reporter-test.false))
