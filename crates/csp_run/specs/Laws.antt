-- What laws of runs say.
use Rattle.std.specs.Prelude.{◌≡◌, ℕ, Bool, true, false, List, [], ◌∷◌, Some, Result, Ok, Err}
use Rattle.csp_io.specs.Told.{Rose}
use Rattle.csp_model.specs.declared.policy.PolicyList.{PolicyList}
use Rattle.csp_model.specs.declared.url.Origin.{Origin}
use Rattle.csp_model.specs.declared.verdict.Described.{Described}
use Rattle.csp_request.specs.Requests.{requests_of}
use Rattle.csp_run.specs.Contents as content
use Rattle.csp_run.specs.Outputs.{hands_out}
use Rattle.csp_run.specs.declared.fault.FileFault.{FileFault}
use Rattle.csp_run.specs.declared.fault.WordsFault.{WordsFault}
use Rattle.csp_output.specs.declared.status.Status.{Status}
use Rattle.csp_output.specs.declared.status.Status.TheVariants as status
use Rattle.csp_run.specs.Files.{World, found_in, read_as}
use Rattle.csp_run.specs.Words.{File, Plan}

-- a file's bytes are told and have this fault, and it didn't fail
pub record IsFaulty (w : World) (origin : Origin) (file : File) (f : FileFault) : Type 0 where
  pub bytes : List ℕ
  pub told : w.contents file.name ≡ Some bytes
  pub fault : read_as origin file.role bytes ≡ Err f
  pub quiet : Rose (w.faults_before file.name) (w.faults_now file.name) → ⊥

-- the two files were read to their ends and without a fault, and these are their lists
abbrev pub AreLists : World → Plan → PolicyList → PolicyList → Type 0
AreLists w plan first second =
    found_in plan.origin plan.files w.log ≡ Ok (content.Policies first ∷ content.Policies second ∷ [])

-- so were a policy file and a request file, and these are their list and their requests
pub record AreRequests (w : World) (plan : Plan) (list : PolicyList) (requests : List Described) : Type 0 where
  pub bytes : List ℕ
  pub files : found_in plan.origin plan.files w.log ≡ Ok (content.Policies list ∷ content.Requests bytes ∷ [])
  pub described : requests_of bytes ≡ Ok requests

-- the words ask for a command that hands violations out
abbrev pub is_report : Result Plan WordsFault → Bool
is_report (Ok plan) = hands_out plan.form
is_report (Err f) = false

-- the statuses of runs that may have handed violations out and ended by themselves
abbrev pub may_follow_violations : Status → Bool
may_follow_violations status.Clean = true
may_follow_violations status.NoMemory = true
may_follow_violations status.ReporterFault = true
may_follow_violations other = false
