use Rattle.std.proofs.Common.{◌∙◌, sym, ap, ◌∷◌, ◌++◌, [], Some}
use Rattle.csp_source.specs.Types.{PathPart}
use Rattle.csp_source.proofs.PathLaws.{path_part_of-at_slash}
use Rattle.csp_source.proofs.path.path_part_of.Goals as goal

pub returns-in_ok-read-in-Some-eq47-default : goal.returns-in_ok-read-in-Some-eq47-default
returns-in_ok-read-in-Some-eq47-default c =
    let ends = c.in-Some-eq47-default.ensures.cases.0 ∙ ap (λ b. c.in-Some-eq47-default.front.now ++ b ∷ []) c.in-Some-eq47-default.field-0-0-test in
    path_part_of-at_slash c.args.text.now c.in-Some.rest.now c.in-Some-eq47-default.front.now c.in-Some.field-0-0.now c.in-Some.ensures.cases.0 ends c.requires
    ∙ ap (λ pieces. Some (PathPart.Prefix pieces)) (sym c.in_ok-read-in-Some-eq47-default.ensures)
