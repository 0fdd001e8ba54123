-- What is printed of an end is due where the end is, and has another status than that of a failed write.
use Rattle.std.proofs.Common.{◌≡◌, ℕ, Bool, true, false, List, Result, Ok, Err, refl, sym, ap, ◌∙◌, subst}
use Rattle.std.proofs.lemmas.Bool.{false≢true}
use Rattle.csp_desk.specs.Desk.{Desk}
use Rattle.csp_desk.specs.declared.reporter.Kind.{Kind}
use Rattle.csp_model.specs.declared.verdict.Violation.{Violation}
use Rattle.csp_output.specs.declared.built.Built.{Built}
use Rattle.csp_output.specs.declared.status.Status.{Status}
use Rattle.csp_output.specs.declared.status.Status.TheVariants.{WriteFault}
use Rattle.csp_run.specs.declared.fault.Cause.{Cause}
use Rattle.csp_run.specs.declared.fault.Cause.TheVariants as cause
use Rattle.csp_run.specs.declared.fault.Fault.{Fault}
use Rattle.csp_run.specs.declared.fault.Fault.TheVariants as fault
use Rattle.csp_run.specs.declared.fault.OutputFault.{OutputFault}
use Rattle.csp_run.specs.declared.fault.OutputFault.TheVariants as output
use Rattle.csp_run.specs.declared.fault.WordsFault.TheVariants as words
use Rattle.csp_run.specs.declared.output.Outcome.{Outcome}
use Rattle.csp_run.specs.Due.{End, IsDue, IsEndOf, end_status}
use Rattle.csp_run.specs.Files.{World, read_fault}
use Rattle.csp_run.specs.Shown.{IsPrintedOf, end_of}
use Rattle.csp_run.specs.Texts.{cause_status, output_status, status_of}
use Rattle.csp_run.specs.Words.{plan_of}
use Rattle.csp_run.proofs.Statuses.{no_output}

pub printed_due : (w : World) (d : Desk) (words : List (List ℕ)) (kinds : List Kind)
    (helds : List (List Violation)) (found : Result Outcome Fault) (printed : End)
    → IsDue w d words (end_of d.kinds d.held_now found) → kinds ≡ d.kinds → helds ≡ d.held_now
    → IsPrintedOf (end_of kinds helds found) printed → IsDue w d words printed
printed_due w d words kinds helds found printed due same_kinds same_helds is =
    let ended : end_of kinds helds found ≡ end_of d.kinds d.held_now found =
    ap (λ (k : List Kind). end_of k helds found) same_kinds
    ∙ ap (λ (h : List (List Violation)). end_of d.kinds h found) same_helds in
    record {
      ended = λ real.
          let same : printed ≡ end_of d.kinds d.held_now found = is.text real ∙ ended in
          let P : End → Type 0 = λ end. IsEndOf w d (plan_of words) end in
          subst P (sym same) (due.ended (λ memory. real (same ∙ memory)));
      grown = due.grown;
      no_fault = λ other. due.no_fault (λ file same. other file (is.fault (read_fault file) (ended ∙ same)));
      none_refused = λ other. due.none_refused (λ n same. other n (is.fault (fault.Refused n) (ended ∙ same)));
    }

-- an end is printed by its own text, or, where that is a desk's, memory may be wanting for it

pub printed_same : (end printed : End) → printed ≡ end → IsPrintedOf end printed
printed_same end printed is = record { text = λ real. is; fault = λ f same. is ∙ same }

pub printed_memory : (end : End) (built : Built) → end ≡ Ok built → IsPrintedOf end (Err fault.Memory)
printed_memory end built is = record {
  text = λ real. absurd (real refl);
  fault = λ f same. absurd (cc (sym is ∙ same));
}

-- The status of a failed write

abbrev is_write_fault : Status → Bool
is_write_fault WriteFault = true
is_write_fault status = false

no_cause : (c : Cause) → is_write_fault (cause_status c) ≡ false
no_cause cause.Read = refl
no_cause c = refl

no_refusal : (f : OutputFault) → is_write_fault (output_status f) ≡ false
no_refusal output.NotJson = refl
no_refusal f = refl

no_fault : (f : Fault) → is_write_fault (status_of f) ≡ false
no_fault (fault.Words words.Usage) = refl
no_fault (fault.Words words.BadOrigin) = refl
no_fault (fault.File f) = no_cause f.cause
no_fault (fault.Output f) = no_refusal f
no_fault f = refl

pub no_write_fault : (w : World) (d : Desk) (asked : List (List ℕ)) (end : End) (status : Status) → IsDue w d asked end
    → status ≡ end_status end → status ≡ WriteFault → ⊥
no_write_fault w d asked (Ok built) status due is same =
    no_output w d (plan_of asked) built WriteFault (due.ended (λ e. cc e)) refl (sym is ∙ same)
no_write_fault w d asked (Err f) status due is same =
    false≢true (sym (no_fault f) ∙ ap is_write_fault (sym is ∙ same))
