use Rattle.std.proofs.Common.{[], ◌∷◌, Result, Ok, Err, subst}
use Rattle.std.proofs.lemmas.Result.{err_from_is_err_and}
use Rattle.csp_model.specs.declared.policy.PolicyList.{PolicyList}
use Rattle.csp_run.specs.Contents as content
use Rattle.csp_run.specs.Files.{response_content}
use Rattle.csp_run.specs.Shown.{HasReadFiles, file_as, only_content}
use Rattle.csp_run.specs.declared.fault.FileFault.{FileFault}
use Rattle.csp_run.specs.declared.fault.Role.TheVariants as role
use Rattle.csp_run.proofs.Reading.{then_reads, then_stops}
use Rattle.csp_run.proofs.files.read_embedded.Goals as goal

pub returns-in_err-required-clause-read : goal.returns-in_err-required-clause-read
returns-in_err-required-clause-read g c =
    let p = err_from_is_err_and c.from_residual.result c.from_residual.ensures.1 in
    rw (p.1, p.2)
    (then_stops _ g.I.Inputs _ _ c.args.origin.now (file_as role.Required c.args.required.now ∷ [])
    (file_as role.Response c.args.response.now ∷ []) c.in_err-required.field-0.0 c.in_err-required.ensures.read)

pub returns-in_err-block-clause-read : goal.returns-in_err-block-clause-read
returns-in_err-block-clause-read g c =
    let p = err_from_is_err_and c.from_residual-in_err-block.result c.from_residual-in_err-block.ensures.1 in
    rw (p.1, p.2)
    (then_reads _ g.I.Inputs c.args.inputs.now c.read_required.new.inputs c.read_header.new.inputs c.args.origin.now
    (file_as role.Required c.args.required.now ∷ []) (file_as role.Response c.args.response.now ∷ [])
    (content.Required c.in_ok-required.required ∷ []) (Err c.in_err-block.field-0.0) c.in_ok-required.ensures.read
    c.in_err-block.ensures.read)

pub returns-clause-read : goal.returns-clause-read
returns-clause-read g c =
    let P : Result PolicyList FileFault → Type 0 =
    λ r. HasReadFiles g.I.Inputs c.read_required.new.inputs c.read_header.new.inputs c.args.origin.now
    (file_as role.Response c.args.response.now ∷ []) (only_content (response_content c.in_ok-block.block r)) in
    then_reads _ g.I.Inputs c.args.inputs.now c.read_required.new.inputs c.read_header.new.inputs c.args.origin.now
    (file_as role.Required c.args.required.now ∷ []) (file_as role.Response c.args.response.now ∷ [])
    (content.Required c.in_ok-required.required ∷ [])
    (Ok (content.Response c.in_ok-block.block c.in_ok-block.response ∷ [])) c.in_ok-required.ensures.read
    (subst P c.in_ok-block.ensures.list c.in_ok-block.ensures.read)
