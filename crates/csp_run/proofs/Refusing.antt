-- A refusal is due only where some reporter may refuse.
use Rattle.std.proofs.Common.{◌≡◌, ◌≢◌, ◌-◌, ◌∙◌, ℕ, zero, suc, Bool, true, false, List, [], ◌∷◌, Result, Ok, Err, ap, refl, sym, subst, arith}
use Rattle.std.proofs.lemmas.Bool.{false≢true}
use Rattle.std.specs.Prelude.{Contains, get_or}
use Rattle.csp_desk.specs.Growth.{MayRefuse}
use Rattle.csp_desk.specs.declared.desk.DeskError.TheVariants.{Refused}
use Rattle.csp_model.specs.declared.url.Origin.{Origin}
use Rattle.csp_model.specs.declared.verdict.Violation.{Violation}
use Rattle.csp_output.specs.declared.status.Status.TheVariants as status
use Rattle.csp_request.specs.declared.error.RequestError.{RequestError}
use Rattle.csp_run.specs.Contents.{Content}
use Rattle.csp_desk.specs.Desk.{Desk}
use Rattle.csp_run.specs.Due.{End, IsDue, IsEndOf, end_status}
use Rattle.csp_run.specs.Files.{World}
use Rattle.csp_run.specs.Forms.{Form}
use Rattle.csp_run.specs.Outputs.{IsOutput, IsOutputOf, IsReportOn, hands_out}
use Rattle.csp_run.specs.Texts.{cause_status, output_status, status_of}
use Rattle.csp_run.specs.Words.{Plan, plan_of}
use Rattle.csp_run.specs.declared.fault.Cause.{Cause}
use Rattle.csp_run.specs.declared.fault.Cause.TheVariants as cause
use Rattle.csp_run.specs.declared.fault.Fault.{Fault}
use Rattle.csp_run.specs.declared.fault.Fault.TheVariants as fault
use Rattle.csp_run.specs.declared.fault.FileFault.{FileFault}
use Rattle.csp_run.specs.declared.fault.OutputFault.{OutputFault}
use Rattle.csp_run.specs.declared.fault.OutputFault.TheVariants as output
use Rattle.csp_run.specs.declared.fault.WordsFault.{WordsFault}
use Rattle.csp_run.specs.declared.fault.WordsFault.TheVariants as words
use Rattle.csp_run.proofs.Statuses.{no_output, reported_on}

-- a fault with the status of a refusal

cause_other : (c : Cause) → cause_status c ≡ status.ReporterFault → ⊥
cause_other cause.Read is = cc is
cause_other c is = cc is

output_other : (f : OutputFault) → output_status f ≡ status.ReporterFault → ⊥
output_other output.NotJson is = cc is
output_other f is = cc is

refused_fault : (f : Fault) → status_of f ≡ status.ReporterFault → (reporter : ℕ) × (f ≡ fault.Refused reporter)
refused_fault (fault.Words words.Usage) is = absurd (cc is)
refused_fault (fault.Words words.BadOrigin) is = absurd (cc is)
refused_fault (fault.File f) is = absurd (cause_other f.cause is)
refused_fault (fault.Output f) is = absurd (output_other f is)
refused_fault (fault.Refused reporter) is = (reporter, refl)
refused_fault fault.Memory is = absurd (cc is)

-- A refusal

by_report : (desk : Desk) (reporter : ℕ) (found : Result (List Violation) RequestError)
    → IsReportOn found desk (Err (fault.Refused reporter)) → MayRefuse desk.may_refuse (Refused reporter)
by_report desk reporter (Ok all) is = is.1
by_report desk reporter (Err refused) is = absurd is

by_output : (hands : Bool) (form : Form) (o : Origin) (contents : List Content) (desk : Desk) (reporter : ℕ)
    → IsOutputOf hands form o contents desk (Err (fault.Refused reporter)) → MayRefuse desk.may_refuse (Refused reporter)
by_output true form o contents desk reporter is =
    reported_on contents desk (Err (fault.Refused reporter)) is (by_report desk reporter)
by_output false form o contents desk reporter is = absurd is.0

by_found : (form : Form) (o : Origin) (found : Result (List Content) FileFault) (desk : Desk) (reporter : ℕ)
    → IsOutput form o found desk (Err (fault.Refused reporter)) → MayRefuse desk.may_refuse (Refused reporter)
by_found form o (Ok contents) desk reporter is = by_output (hands_out form) form o contents desk reporter is
by_found form o (Err f) desk reporter is = absurd (cc (is.0))

by_plan : (w : World) (desk : Desk) (asked : Result Plan WordsFault) (reporter : ℕ)
    → IsEndOf w desk asked (Err (fault.Refused reporter)) → MayRefuse desk.may_refuse (Refused reporter)
by_plan w desk (Ok plan) reporter is = by_found plan.form plan.origin is.0 desk reporter is.2
by_plan w desk (Err f) reporter is = absurd (cc (is.0))

-- some reporter of a list may refuse
some_may : (may : List Bool) (place : ℕ) → get_or may place false ≡ true → Contains may true
some_may [] place is = absurd (false≢true is)
some_may (first ∷ may) zero is = (0, omega arith, is)
some_may (first ∷ may) (suc place) is =
    let found = some_may may place is in (suc found.0, omega (arith, found.1), found.2)

ends_so : (w : World) (desk : Desk) (asked : Result Plan WordsFault) (end : End) → IsEndOf w desk asked end
    → end_status end ≡ status.ReporterFault → Contains desk.may_refuse true
ends_so w desk asked (Ok built) is refused =
    absurd (no_output w desk asked built status.ReporterFault is refl refused)
ends_so w desk asked (Err f) is refused =
    let P : Fault → Type 0 = λ g. IsEndOf w desk asked (Err g) in
    let which = refused_fault f refused in
    some_may desk.may_refuse (which.0 - 1) (by_plan w desk asked which.0 (subst P which.1 is))

no_memory : (end : End) → end_status end ≡ status.ReporterFault → ◌≢◌ {A = End} end (Err fault.Memory)
no_memory end refused same =
    let e : status.NoMemory ≡ status.ReporterFault = sym (ap end_status same) ∙ refused in absurd (cc e)

pub refusing_desk : (w : World) (desk : Desk) (words : List (List ℕ)) (end : End) → IsDue w desk words end
    → end_status end ≡ status.ReporterFault → Contains desk.may_refuse true
refusing_desk w desk words end due refused =
    ends_so w desk (plan_of words) end (due.ended (no_memory end refused)) refused
