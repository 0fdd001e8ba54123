-- How the handing out of violations ends a report.
use Rattle.std.proofs.Common.{◌≢◌, List, Result, Err, refl}
use Rattle.csp_desk.proofs.GrowthLaws.{GrewInPart-StopsAt}
use Rattle.csp_desk.specs.Desk.{Desk, HasStopped}
use Rattle.csp_desk.specs.Growth.{GrewInPart}
use Rattle.csp_desk.specs.declared.desk.DeskError.{DeskError}
use Rattle.csp_desk.specs.declared.desk.DeskError.TheVariants.{Refused, Memory}
use Rattle.csp_model.specs.declared.verdict.Violation.{Violation}
use Rattle.csp_output.specs.declared.built.Built.{Built}
use Rattle.csp_run.specs.Reports.{IsReport}
use Rattle.csp_run.specs.Shown.{desk_fault}
use Rattle.csp_run.specs.declared.fault.Fault.{Fault}
use Rattle.csp_run.specs.declared.fault.Fault.TheVariants as fault

pub stopped_end : (e : DeskError) (all : List Violation) (d : Desk) → HasStopped e all d
    → ◌≢◌ {A = Result Built Fault} (Err (desk_fault e)) (Err fault.Memory)
    → IsReport all d (Err (desk_fault e))
stopped_end (Refused reporter) all d stopped real = stopped
stopped_end Memory all d stopped real = absurd (real refl)

pub stopped_part : (e : DeskError) (all : List Violation) (d : Desk) → HasStopped e all d
    → GrewInPart all d.held_before d.held_now
stopped_part (Refused reporter) all d stopped =
    GrewInPart-StopsAt (Refused reporter) all d.held_before d.held_now d.faults_before d.faults_now stopped.0
stopped_part Memory all d stopped = stopped
