use Rattle.std.proofs.Common.{Err, ap}
use Rattle.std.proofs.lemmas.Result.{err_from_is_err_and}
use Rattle.csp_run.specs.declared.fault.Fault.{Fault}
use Rattle.csp_run.proofs.Reading.{header_fault, made_of}
use Rattle.csp_run.proofs.files.read_header.Goals as goal

pub returns-in_err-bytes-clause-read : goal.returns-in_err-bytes-clause-read
returns-in_err-bytes-clause-read g c =
    let p = err_from_is_err_and c.from_residual.result c.from_residual.ensures.1 in
    rw (p.1, p.2) (c.in_err-bytes.ensures.read c.args.origin.now)

pub returns-in_err-list-clause-read : goal.returns-in_err-list-clause-read
returns-in_err-list-clause-read g c =
    let p = err_from_is_err_and c.from_residual-in_err-list.result c.from_residual-in_err-list.ensures.1 in
    let f : Fault = c.in_err-list.field-0.0 in
    rw (p.1, p.2)
    (made_of _ g.I.Inputs _ _ c.args.origin.now _ _ (Err f) (c.in_ok-bytes.ensures.read c.args.origin.now)
    c.in_ok-bytes.ensures.same
    (λ real. header_fault c.args.origin.now c.args.file c.as_slice.result.now c.in_ok-bytes.bytes f c.requires.header
    c.as_slice.ensures (λ same. real (ap (λ (h : Fault). Err h) same)) c.in_err-list.ensures.read))
