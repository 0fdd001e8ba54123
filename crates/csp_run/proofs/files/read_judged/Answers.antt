use Rattle.std.proofs.Common.{[], ◌∷◌, Ok, Err}
use Rattle.std.proofs.lemmas.Result.{err_from_is_err_and}
use Rattle.csp_run.specs.Contents as content
use Rattle.csp_run.specs.Shown.{file_as}
use Rattle.csp_run.specs.declared.fault.Role.TheVariants as role
use Rattle.csp_run.proofs.Reading.{then_reads, then_stops}
use Rattle.csp_run.proofs.files.read_judged.Goals as goal

pub returns-in_err-list-clause-read : goal.returns-in_err-list-clause-read
returns-in_err-list-clause-read g c =
    let p = err_from_is_err_and c.from_residual.result c.from_residual.ensures.1 in
    rw (p.1, p.2)
    (then_stops _ g.I.Inputs _ _ c.args.origin.now (file_as role.Policy c.args.policy.now ∷ []) (file_as role.Requests c.args.requests.now ∷ []) c.in_err-list.field-0.0 c.in_err-list.ensures.read)

pub returns-in_err-requests-clause-read : goal.returns-in_err-requests-clause-read
returns-in_err-requests-clause-read g c =
    let p = err_from_is_err_and c.from_residual-in_err-requests.result c.from_residual-in_err-requests.ensures.1 in
    rw (p.1, p.2)
    (then_reads _ g.I.Inputs c.args.inputs.now c.read_list.new.inputs c.read_bytes.new.inputs c.args.origin.now (file_as role.Policy c.args.policy.now ∷ []) (file_as role.Requests c.args.requests.now ∷ [])
    (content.Policies c.in_ok-list.list ∷ []) (Err c.in_err-requests.field-0.0) c.in_ok-list.ensures.read
    (c.in_err-requests.ensures.read c.args.origin.now))

pub returns-clause-read : goal.returns-clause-read
returns-clause-read g c =
    then_reads _ g.I.Inputs c.args.inputs.now c.read_list.new.inputs c.read_bytes.new.inputs c.args.origin.now (file_as role.Policy c.args.policy.now ∷ []) (file_as role.Requests c.args.requests.now ∷ [])
    (content.Policies c.in_ok-list.list ∷ []) (Ok (content.Requests c.in_ok-requests.requests ∷ [])) c.in_ok-list.ensures.read
    (c.in_ok-requests.ensures.read c.args.origin.now)
