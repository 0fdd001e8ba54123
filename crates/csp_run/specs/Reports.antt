-- What `report` does and prints.
use Rattle.std.specs.Prelude.{◌≡◌, List, Result, Ok, Err}
use Rattle.csp_desk.specs.Growth.{all_grown, MayRefuse, StopsAt}
use Rattle.csp_desk.specs.Texts.{desk_text}
use Rattle.csp_desk.specs.declared.desk.DeskError.TheVariants.{Refused}
use Rattle.csp_model.specs.declared.verdict.Violation.{Violation}
use Rattle.csp_desk.specs.Desk.{Desk}
use Rattle.csp_run.specs.declared.fault.Fault.{Fault}
use Rattle.csp_run.specs.declared.fault.Fault.TheVariants as fault
use Rattle.csp_output.specs.declared.built.Built.{Built}
use Rattle.csp_output.specs.declared.status.Status.TheVariants.{Clean}

-- the text of a desk of which each reporter holds these violations behind what it held
abbrev pub report_of : Desk → List Violation → Built
report_of desk all = record { status = Clean; text = desk_text desk.kinds (all_grown all desk.held_before) }

-- What ends the handing out of violations: each reporter took all of them, and the text of the desk is
-- printed. Or one that may refuse refused a violation, and nothing was handed out behind it.
abbrev pub IsReport : List Violation → Desk → Result Built Fault → Type 0
IsReport all desk (Ok built) = (built ≡ report_of desk all) × (desk.held_now ≡ all_grown all desk.held_before)
IsReport all desk (Err (fault.Refused reporter)) =
    StopsAt (Refused reporter) all desk.held_before desk.held_now desk.faults_before desk.faults_now
    × MayRefuse desk.may_refuse (Refused reporter)
IsReport all desk (Err f) = ⊥
