use Rattle.std.proofs.Common.{◌≡◌, Ok, Err, refl, sym, ap}
use Rattle.csp_run.specs.Shown.{end_of}
use Rattle.csp_run.specs.declared.fault.Fault.TheVariants.{Memory}
use Rattle.csp_run.specs.declared.output.Outcome.TheVariants.{Text, Reporters}
use Rattle.csp_run.proofs.Printing.{printed_memory, printed_same}
use Rattle.csp_run.proofs.ending.write_end.Goals as goal

pub returns-in-Ok-clause-written : goal.returns-in-Ok-clause-written
returns-in-Ok-clause-written g c =
    let is : c.args.end ≡ Ok (Text c.in-Ok-Text.built) = cc (c.in-Ok-Text.is, c.in-Ok-Text.field-0-is) in
    (_, printed_same _ _ (sym (ap (end_of _ _) is)), refl, rw c.as_slice.ensures at c.in-Ok.ensures.taken)

pub returns-in-Ok-Text-clause-prefix : goal.returns-in-Ok-Text-clause-prefix
returns-in-Ok-Text-clause-prefix g c =
    let is : c.args.end ≡ Ok (Text c.in-Ok-Text.built) = cc (c.in-Ok-Text.is, c.in-Ok-Text.field-0-is) in
    (_, printed_same _ _ (sym (ap (end_of _ _) is)), rw c.as_slice.ensures at c.in-Err-write_all.ensures.prefix)

pub returns-in-Ok-write_sections-clause-written : goal.returns-in-Ok-write_sections-clause-written
returns-in-Ok-write_sections-clause-written g c =
    let is : c.args.end ≡ Ok Reporters = cc (c.in-Ok-Reporters.is, c.in-Ok-Reporters.field-0-is) in (
      _,
      printed_same _ _ (sym (ap (end_of _ _) is)),
      refl,
      rw (c.as_slice-in-Ok-sections_of.ensures.value, c.in-Ok-sections_of.ensures) at c.in-Ok-write_sections.ensures.taken,
    )

pub returns-in-Ok-sections_of-clause-prefix : goal.returns-in-Ok-sections_of-clause-prefix
returns-in-Ok-sections_of-clause-prefix g c =
    let is : c.args.end ≡ Ok Reporters = cc (c.in-Ok-Reporters.is, c.in-Ok-Reporters.field-0-is) in (
      _,
      printed_same _ _ (sym (ap (end_of _ _) is)),
      rw (c.as_slice-in-Ok-sections_of.ensures.value, c.in-Ok-sections_of.ensures) at c.in-Err-write_sections.ensures.prefix,
    )

pub returns-in-Ok-write_fault-clause-written : goal.returns-in-Ok-write_fault-clause-written
returns-in-Ok-write_fault-clause-written g c =
    let is : c.args.end ≡ Ok Reporters = cc (c.in-Ok-Reporters.is, c.in-Ok-Reporters.field-0-is) in
    (Err Memory, printed_memory _ _ (ap (end_of _ _) is), refl, c.in-Ok-write_fault.ensures.taken)

pub returns-in-Ok-Reporters-clause-prefix : goal.returns-in-Ok-Reporters-clause-prefix
returns-in-Ok-Reporters-clause-prefix g c =
    let is : c.args.end ≡ Ok Reporters = cc (c.in-Ok-Reporters.is, c.in-Ok-Reporters.field-0-is) in
    (Err Memory, printed_memory _ _ (ap (end_of _ _) is), c.in-Err-write_fault.ensures.prefix)

pub returns-in-Ok-write_fault-2-clause-written : goal.returns-in-Ok-write_fault-2-clause-written
returns-in-Ok-write_fault-2-clause-written g c =
    let is : c.args.end ≡ Err c.in-Err.fault = cc c.in-Err.is in
    (Err c.in-Err.fault, printed_same _ _ (sym (ap (end_of _ _) is)), c.status_of.ensures, c.in-Ok-write_fault-2.ensures.taken)

pub returns-clause-prefix : goal.returns-clause-prefix
returns-clause-prefix g c =
    let is : c.args.end ≡ Err c.in-Err.fault = cc c.in-Err.is in
    (Err c.in-Err.fault, printed_same _ _ (sym (ap (end_of _ _) is)), c.in-Err-write_fault-2.ensures.prefix)
