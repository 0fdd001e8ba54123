use Rattle.std.proofs.Common.{◌∙◌, ap, refl, subst, ℕ, List, Result, Err}
use Rattle.csp_io.specs.Reading.{HasRead}
use Rattle.csp_io.specs.declared.inputs.ReadError.{ReadError}
use Rattle.csp_run.specs.Files.{World, file_fault, read_within, world}
use Rattle.csp_run.specs.Shown.{file_as}
use Rattle.csp_run.specs.Words.{File}
use Rattle.csp_run.specs.declared.fault.Cause.TheVariants as cause
use Rattle.csp_run.specs.declared.fault.Limit.TheVariants as limit
use Rattle.csp_run.proofs.Reading.{failed, file_read, file_wanted, held, too_long}
use Rattle.csp_run.proofs.files.read_bytes.Goals as goal

pub returns-in-Ok-clause-read : goal.returns-in-Ok-clause-read
returns-in-Ok-clause-read g c = λ origin.
    let w : World = world g.I.Inputs c.args.inputs.now c.read_all.new.inputs in
    let file : File = file_as c.args.file c.as_str.result.now in
    file_read _ g.I.Inputs c.args.inputs.now c.read_all.new.inputs origin c.args.file c.as_str.result.now
    c.args.name.now _ _ (read_within origin c.args.file c.in-Ok.bytes) c.as_str.ensures.text c.in-Ok.ensures.read
    c.read_all.ensures.contents c.read_all.ensures.later
    (held w origin file _ _ c.in-Ok.bytes _ refl c.file_limit.ensures c.in-Ok.ensures.read c.in-Ok.ensures.bytes)
    (λ _. c.in-Ok.ensures.no_fault (λ same. cc same))

pub returns-in-Err-TooLong-clause-read : goal.returns-in-Err-TooLong-clause-read
returns-in-Err-TooLong-clause-read g c = λ origin.
    let w : World = world g.I.Inputs c.args.inputs.now c.read_all.new.inputs in
    let file : File = file_as c.args.file c.as_str.result.now in
    let is = c.in-Err-TooLong.is ∙ ap (λ e. Err e) c.in-Err-TooLong.field-0-is in
    let P : Result (List ℕ) ReadError → Type 0 = λ r. HasRead (g.I.Inputs.log c.args.inputs.now) (g.I.Inputs.log c.read_all.new.inputs) c.as_str.result.now c.file_limit.result r in
    let read = subst P is c.read_all.ensures.read in
    file_read _ g.I.Inputs c.args.inputs.now c.read_all.new.inputs origin c.args.file c.as_str.result.now
    c.args.name.now _ _ (Err (file_fault c.args.file (cause.TooLarge limit.Bytes))) c.as_str.ensures.text read
    c.read_all.ensures.contents c.read_all.ensures.later
    (too_long w origin file _ _ _ refl c.file_limit.ensures read
    (c.read_all.ensures.longer (cc (c.in-Err-TooLong.is, c.in-Err-TooLong.field-0-is))))
    (λ _. c.read_all.ensures.no_fault (λ same. cc (c.in-Err-TooLong.is, c.in-Err-TooLong.field-0-is, same)))

pub returns-in-Err-Fault-clause-read : goal.returns-in-Err-Fault-clause-read
returns-in-Err-Fault-clause-read g c = λ origin.
    let w : World = world g.I.Inputs c.args.inputs.now c.read_all.new.inputs in
    let file : File = file_as c.args.file c.as_str.result.now in
    let is = c.in-Err-Fault.is ∙ ap (λ e. Err e) c.in-Err-Fault.field-0-is in
    let P : Result (List ℕ) ReadError → Type 0 = λ r. HasRead (g.I.Inputs.log c.args.inputs.now) (g.I.Inputs.log c.read_all.new.inputs) c.as_str.result.now c.file_limit.result r in
    let read = subst P is c.read_all.ensures.read in
    file_read _ g.I.Inputs c.args.inputs.now c.read_all.new.inputs origin c.args.file c.as_str.result.now
    c.args.name.now _ _ (Err (file_fault c.args.file cause.Read)) c.as_str.ensures.text read
    c.read_all.ensures.contents c.read_all.ensures.later
    (failed w origin file _ _ _ refl c.file_limit.ensures read
    (c.read_all.ensures.fault (cc (c.in-Err-Fault.is, c.in-Err-Fault.field-0-is))))
    (λ other. absurd (other c.args.file refl))

pub returns-in-Err-Memory-clause-read : goal.returns-in-Err-Memory-clause-read
returns-in-Err-Memory-clause-read g c = λ origin.
    file_wanted _ g.I.Inputs c.args.inputs.now c.read_all.new.inputs origin c.args.file c.as_str.result.now
    c.args.name.now _ _ c.as_str.ensures.text c.read_all.ensures.read c.read_all.ensures.contents
    c.read_all.ensures.later
    (c.read_all.ensures.no_fault (λ same. cc (c.in-Err-Memory.is, c.in-Err-Memory.field-0-is, same)))
