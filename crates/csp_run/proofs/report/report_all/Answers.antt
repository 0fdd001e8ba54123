use Rattle.std.proofs.Common.{Result, Err, ap}
use Rattle.std.proofs.lemmas.Result.{err_from_is_err_and}
use Rattle.csp_output.proofs.Handing.{all_taken}
use Rattle.csp_run.specs.declared.fault.Fault.{Fault}
use Rattle.csp_run.specs.declared.output.Outcome.{Outcome}
use Rattle.csp_run.proofs.Handing.{stopped_end, stopped_part}
use Rattle.csp_run.proofs.report.report_all.Goals as goal

pub returns-in_err-hand_out-clause-grown : goal.returns-in_err-hand_out-clause-grown
returns-in_err-hand_out-clause-grown g c = stopped_part _ _ _ c.in_err-hand_out.ensures.stopped

pub returns-in_err-hand_out-clause-end : goal.returns-in_err-hand_out-clause-end
returns-in_err-hand_out-clause-end g c =
    let p = err_from_is_err_and c.from_residual.result c.from_residual.ensures.1 in
    let refused : Fault → Result Outcome Fault = λ f. Err f in
    rw (p.1, p.2)
    (λ real. stopped_end _ _ _ c.in_err-hand_out.ensures.stopped (λ same. real (ap refused (cc same))))

pub returns-clause-grown : goal.returns-clause-grown
returns-clause-grown g c = all_taken _ _ _ c.in_ok-hand_out.ensures.took
