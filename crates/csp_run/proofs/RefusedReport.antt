-- The end of a report on a request file that is refused.
use Rattle.std.proofs.Common.{◌≡◌, ◌≢◌, List, Option, Some, None, Result, Err, ap, refl, sym, subst, ◌∙◌}
use Rattle.csp_desk.specs.Desk.{Desk, IsUntouched}
use Rattle.csp_model.specs.declared.policy.PolicyList.{PolicyList}
use Rattle.csp_model.specs.declared.verdict.Described.{Described}
use Rattle.csp_output.specs.Reports.{violations_in}
use Rattle.csp_request.specs.declared.error.RequestError.{RequestError}
use Rattle.csp_request.specs.declared.error.RequestError.TheVariants as request
use Rattle.csp_run.specs.Outputs.{IsReportOn, request_fault}
use Rattle.csp_run.specs.Shown.{output_or_memory}
use Rattle.csp_run.specs.declared.fault.Fault.{Fault}
use Rattle.csp_run.specs.declared.fault.Fault.TheVariants as fault
use Rattle.csp_run.specs.declared.fault.OutputFault.{OutputFault}

pub refused_report : (list : PolicyList) (found : Result (List Described) RequestError) (e : RequestError) (desk : Desk)
    (f : Fault) → f ≡ output_or_memory (request_fault e) → (e ≢ request.Memory → found ≡ Err e) → f ≢ fault.Memory
    → IsUntouched desk → IsReportOn (violations_in list found) desk (Err f)
refused_report list found e desk f is refused real kept =
    let found_is : found ≡ Err e =
    refused (λ memory. real (is ∙ ap (λ (r : RequestError). output_or_memory (request_fault r)) memory)) in
    subst (λ (r : Result (List Described) RequestError). IsReportOn (violations_in list r) desk (Err f)) (sym found_is)
    (by (request_fault e) refl is)
  where
    by : (o : Option OutputFault) → request_fault e ≡ o → f ≡ output_or_memory o → IsReportOn (Err e) desk (Err f)
    by (Some g) so same =
        subst (λ (h : Fault). IsReportOn (Err e) desk (Err h)) (sym same) (so, kept)
    by None so same = absurd (real same)
