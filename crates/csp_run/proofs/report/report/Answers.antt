use Rattle.std.proofs.Common.{Err, refl, inr, ap}
use Rattle.csp_request.specs.Requests.{requests_of}
use Rattle.csp_run.proofs.RefusedReport.{refused_report}
use Rattle.csp_run.proofs.report.report.Goals as goal

pub returns-in-Ok-clause-end : goal.returns-in-Ok-clause-end
returns-in-Ok-clause-end g c = λ real. rw c.in-Ok.ensures.read (c.report_all.ensures.end real)

pub returns-in-Ok-clause-grown : goal.returns-in-Ok-clause-grown
returns-in-Ok-clause-grown g c = inr (c.in-Ok.violations, c.in-Ok.ensures.read, c.report_all.ensures.grown)

pub returns-in-Err-clause-end : goal.returns-in-Err-clause-end
returns-in-Err-clause-end g c = λ real.
    refused_report c.args.list.now (requests_of c.args.bytes.now) c.in-Err.error _ c.from.result c.from.ensures
    (λ other. c.in-Err.ensures.refused other) (λ same. real (ap (λ f. Err f) same)) refl
