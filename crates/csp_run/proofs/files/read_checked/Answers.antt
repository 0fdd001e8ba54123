use Rattle.std.proofs.Common.{[], ◌∷◌, Ok, Err}
use Rattle.std.proofs.lemmas.Result.{err_from_is_err_and}
use Rattle.csp_run.specs.Contents as content
use Rattle.csp_run.specs.Shown.{file_as}
use Rattle.csp_run.specs.declared.fault.Role.TheVariants as role
use Rattle.csp_run.proofs.Reading.{then_reads, then_stops}
use Rattle.csp_run.proofs.files.read_checked.Goals as goal

pub returns-in_err-first-clause-read : goal.returns-in_err-first-clause-read
returns-in_err-first-clause-read g c =
    let p = err_from_is_err_and c.from_residual.result c.from_residual.ensures.1 in
    rw (p.1, p.2)
    (then_stops _ g.I.Inputs _ _ c.args.origin.now (file_as role.First c.args.first.now ∷ []) (file_as role.Second c.args.second.now ∷ file_as role.Proof c.args.proof.now ∷ []) c.in_err-first.field-0.0 c.in_err-first.ensures.read)

pub returns-in_err-second-clause-read : goal.returns-in_err-second-clause-read
returns-in_err-second-clause-read g c =
    let p = err_from_is_err_and c.from_residual-in_err-second.result c.from_residual-in_err-second.ensures.1 in
    rw (p.1, p.2)
    (then_reads _ g.I.Inputs c.args.inputs.now c.read_list.new.inputs c.read_list-2.new.inputs c.args.origin.now (file_as role.First c.args.first.now ∷ []) (file_as role.Second c.args.second.now ∷ file_as role.Proof c.args.proof.now ∷ [])
    (content.Policies c.in_ok-first.first ∷ []) (Err c.in_err-second.field-0.0) c.in_ok-first.ensures.read
    (then_stops _ g.I.Inputs _ _ c.args.origin.now (file_as role.Second c.args.second.now ∷ []) (file_as role.Proof c.args.proof.now ∷ []) c.in_err-second.field-0.0 c.in_err-second.ensures.read))

pub returns-in_err-proof-clause-read : goal.returns-in_err-proof-clause-read
returns-in_err-proof-clause-read g c =
    let p = err_from_is_err_and c.from_residual-in_err-proof.result c.from_residual-in_err-proof.ensures.1 in
    rw (p.1, p.2)
    (then_reads _ g.I.Inputs c.args.inputs.now c.read_list.new.inputs c.read_bytes.new.inputs c.args.origin.now (file_as role.First c.args.first.now ∷ []) (file_as role.Second c.args.second.now ∷ file_as role.Proof c.args.proof.now ∷ [])
    (content.Policies c.in_ok-first.first ∷ []) (Err c.in_err-proof.field-0.0) c.in_ok-first.ensures.read
    (then_reads _ g.I.Inputs c.read_list.new.inputs c.read_list-2.new.inputs c.read_bytes.new.inputs c.args.origin.now (file_as role.Second c.args.second.now ∷ []) (file_as role.Proof c.args.proof.now ∷ [])
    (content.Policies c.in_ok-second.second ∷ []) (Err c.in_err-proof.field-0.0) c.in_ok-second.ensures.read
    (c.in_err-proof.ensures.read c.args.origin.now)))

pub returns-clause-read : goal.returns-clause-read
returns-clause-read g c =
    then_reads _ g.I.Inputs c.args.inputs.now c.read_list.new.inputs c.read_bytes.new.inputs c.args.origin.now (file_as role.First c.args.first.now ∷ []) (file_as role.Second c.args.second.now ∷ file_as role.Proof c.args.proof.now ∷ [])
    (content.Policies c.in_ok-first.first ∷ []) (Ok (content.Policies c.in_ok-second.second ∷ content.Proof c.in_ok-proof.proof ∷ [])) c.in_ok-first.ensures.read
    (then_reads _ g.I.Inputs c.read_list.new.inputs c.read_list-2.new.inputs c.read_bytes.new.inputs c.args.origin.now (file_as role.Second c.args.second.now ∷ []) (file_as role.Proof c.args.proof.now ∷ [])
    (content.Policies c.in_ok-second.second ∷ []) (Ok (content.Proof c.in_ok-proof.proof ∷ [])) c.in_ok-second.ensures.read
    (c.in_ok-proof.ensures.read c.args.origin.now))
