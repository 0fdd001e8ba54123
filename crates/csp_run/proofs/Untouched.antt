-- Where reporters hold what they held.
use Rattle.std.proofs.Common.{◌≡◌, ◌≢◌, ℕ, Bool, true, false, List, Result, Ok, Err, inl, inr, sym, ap, ◌∙◌}
use Rattle.std.proofs.lemmas.Bool.{false≢true}
use Rattle.csp_model.specs.declared.verdict.Violation.{Violation}
use Rattle.csp_model.specs.declared.url.Origin.{Origin}
use Rattle.csp_request.specs.declared.error.RequestError.{RequestError}
use Rattle.csp_run.specs.declared.fault.WordsFault.{WordsFault}
use Rattle.csp_run.specs.declared.fault.Fault.TheVariants as fault
use Rattle.csp_run.specs.declared.fault.FileFault.{FileFault}
use Rattle.csp_run.specs.Contents.{Content}
use Rattle.csp_output.specs.declared.built.Built.{Built}
use Rattle.csp_run.specs.Forms.{Form}
use Rattle.csp_desk.specs.Desk.{Desk, IsUntouched}
use Rattle.csp_run.specs.Due.{End, IsDue, IsEndOf, HasGrown, end_status}
use Rattle.csp_run.specs.Files.{World}
use Rattle.csp_run.specs.Laws.{is_report, may_follow_violations}
use Rattle.csp_run.specs.Outputs.{IsOutput, IsOutputOf, IsReportOn, hands_out}
use Rattle.csp_run.specs.Words.{Plan, plan_of}
use Rattle.csp_run.proofs.Statuses.{reported_on}

-- By the words

by_words : (w : World) (desk : Desk) (asked : Result Plan WordsFault) → HasGrown w desk asked → is_report asked ≡ false
    → IsUntouched desk
by_words w desk (Err f) grown other = grown
by_words w desk (Ok plan) grown other = elim grown [
  | inl same ↦ same
  | inr more ↦ absurd (false≢true (sym other ∙ more.0))
]

pub kept_by_words : (w : World) (desk : Desk) (words : List (List ℕ)) (end : End) → IsDue w desk words end
    → is_report (plan_of words) ≡ false → IsUntouched desk
kept_by_words w desk words end due other = by_words w desk (plan_of words) due.grown other

-- By the status

by_report : (desk : Desk) (end : End) → may_follow_violations (end_status end) ≡ false
    → (found : Result (List Violation) RequestError) → IsReportOn found desk end → IsUntouched desk
by_report desk (Ok built) other (Ok all) is =
    let clean : may_follow_violations built.status ≡ true =
    ap (λ (b : Built). may_follow_violations b.status) is.0 in
    absurd (false≢true (sym other ∙ clean))
by_report desk (Err (fault.Refused reporter)) other (Ok all) is = absurd (cc other)
by_report desk (Err f) other (Ok all) is = absurd is
by_report desk (Ok built) other (Err refused) is = absurd is
by_report desk (Err (fault.Output f)) other (Err refused) is = is.1
by_report desk (Err f) other (Err refused) is = absurd is

by_output : (hands : Bool) (form : Form) (o : Origin) (contents : List Content) (desk : Desk) (end : End)
    → IsOutputOf hands form o contents desk end → may_follow_violations (end_status end) ≡ false → IsUntouched desk
by_output true form o contents desk end is other = reported_on contents desk end is (by_report desk end other)
by_output false form o contents desk end is other = is.1

by_found : (form : Form) (o : Origin) (found : Result (List Content) FileFault) (desk : Desk) (end : End)
    → IsOutput form o found desk end → may_follow_violations (end_status end) ≡ false → IsUntouched desk
by_found form o (Err f) desk end is other = is.1
by_found form o (Ok contents) desk end is other = by_output (hands_out form) form o contents desk end is other

by_status : (w : World) (desk : Desk) (asked : Result Plan WordsFault) (end : End) → IsEndOf w desk asked end
    → may_follow_violations (end_status end) ≡ false → IsUntouched desk
by_status w desk (Err f) end is other = is.2
by_status w desk (Ok plan) end is other = by_found plan.form plan.origin is.0 desk end is.2 other

not_memory : (end : End) → may_follow_violations (end_status end) ≡ false
    → ◌≢◌ {A = End} end (Err fault.Memory)
not_memory end other same =
    let memory : may_follow_violations (end_status end) ≡ true =
    ap (λ (e : End). may_follow_violations (end_status e)) same in
    false≢true (sym other ∙ memory)

pub kept_by_status : (w : World) (desk : Desk) (words : List (List ℕ)) (end : End) → IsDue w desk words end
    → may_follow_violations (end_status end) ≡ false → IsUntouched desk
kept_by_status w desk words end due other =
    by_status w desk (plan_of words) end (due.ended (not_memory end other)) other
