-- What each command prints of what its files hold.
use Rattle.std.specs.Prelude.{◌≡◌, ℕ, Bool, true, false, List, [], ◌∷◌, map, Option, Some, None, Result, Ok, Err}
use Rattle.csp_desk.specs.Growth.{GrewInPart}
use Rattle.csp_model.specs.declared.policy.PolicyList.{PolicyList}
use Rattle.csp_model.specs.declared.url.Origin.{Origin}
use Rattle.csp_model.specs.declared.verdict.Described.{Described}
use Rattle.csp_model.specs.declared.verdict.Violation.{Violation}
use Rattle.csp_proof.specs.Texts.{IsRefused}
use Rattle.csp_request.specs.Requests.{requests_of}
use Rattle.csp_request.specs.declared.error.RequestError.{RequestError}
use Rattle.csp_request.specs.declared.error.RequestError.TheVariants as request
use Rattle.csp_run.specs.Contents as content
use Rattle.csp_run.specs.Contents.{Content}
use Rattle.csp_run.specs.Forms.{Form, OnRequests, OnTwo, Check, Drill, Embed, Tidy, Learn, Order, Read}
use Rattle.csp_run.specs.declared.plan.Compared.TheVariants.{Compare, Differ}
use Rattle.csp_run.specs.declared.plan.Judged.TheVariants.{Judge, Report, Why}
use Rattle.csp_run.specs.declared.fault.Fault.{Fault}
use Rattle.csp_run.specs.declared.fault.Fault.TheVariants as fault
use Rattle.csp_run.specs.declared.fault.FileFault.{FileFault}
use Rattle.csp_run.specs.declared.fault.Limit.TheVariants as limit
use Rattle.csp_run.specs.declared.fault.OutputFault.{OutputFault}
use Rattle.csp_run.specs.declared.fault.OutputFault.TheVariants as output
use Rattle.csp_output.specs.declared.built.Built.{Built}
use Rattle.csp_output.specs.Differing.{IsDiffering}
use Rattle.csp_output.specs.Checks.{IsChecked}
use Rattle.csp_output.specs.Comparisons.{IsComparison}
use Rattle.csp_desk.specs.Desk.{Desk, IsUntouched}
use Rattle.csp_output.specs.Drills.{IsDrill}
use Rattle.csp_output.specs.Embeddings.{IsEmbedding}
use Rattle.csp_output.specs.Learnt.{learning}
use Rattle.csp_output.specs.Lines.{judgment}
use Rattle.csp_output.specs.Orders.{IsOrdering}
use Rattle.csp_output.specs.Tidyings.{IsTidying}
use Rattle.csp_output.specs.Explanations.{explanation}
use Rattle.csp_output.specs.Readings.{told_output}
use Rattle.csp_output.specs.Reports.{violations_in}
use Rattle.csp_run.specs.Reports.{IsReport}

-- the fault of what a request file is refused for; want of memory is none of the file's
abbrev pub request_fault : RequestError → Option OutputFault
request_fault request.NotJson = Some output.NotJson
request_fault request.TooManyRequests = Some (output.TooLarge limit.Requests)
request_fault (request.BadRequest index field) = Some (output.BadRequest index field)
request_fault (request.TooManyHops index) = Some (output.TooLarge limit.Hops)
request_fault request.Memory = None

-- What ends a command on a request file: this on its requests, or the fault that the file is refused for.
abbrev pub IsOnRequests : {A : Type 0} → (A → Result Built OutputFault → Type 0) → Result A RequestError
    → Result Built OutputFault → Type 0
IsOnRequests Is (Ok requests) end = Is requests end
IsOnRequests Is (Err refused) (Ok built) = ⊥
IsOnRequests Is (Err refused) (Err f) = request_fault refused ≡ Some f

-- the output of `judge` for these requests
abbrev pub IsJudged : PolicyList → List Described → Result Built OutputFault → Type 0
IsJudged list requests end = end ≡ Ok (judgment list (map (λ (d : Described). d.checks) requests))

-- that of `why`
abbrev pub IsExplained : PolicyList → List Described → Result Built OutputFault → Type 0
IsExplained list requests end = end ≡ Ok (explanation list requests)

-- that of `learn`; there is none where the requests need too many sources
abbrev pub learnt_or_fault : Option Built → Result Built OutputFault
learnt_or_fault (Some built) = Ok built
learnt_or_fault None = Err (output.TooLarge limit.Sources)

abbrev pub IsLearnt : Origin → List Described → Result Built OutputFault → Type 0
IsLearnt origin requests end = end ≡ learnt_or_fault (learning origin requests)

-- what ends `check` on a text: its output, or the fault that the text is no proof's
abbrev pub IsCheck : PolicyList → PolicyList → List ℕ → Result Built OutputFault → Type 0
IsCheck first second text (Ok built) = IsChecked first second text built
IsCheck first second text (Err (output.BadProof line)) = IsRefused text line
IsCheck first second text (Err f) = ⊥

-- there is an output, and it is so
abbrev pub IsBuilt : (Built → Type 0) → Result Built OutputFault → Type 0
IsBuilt is (Ok built) = is built
IsBuilt is (Err f) = ⊥

-- what ends `order` on the lists that these files hold
abbrev pub IsOrdered : List Content → Result Built OutputFault → Type 0
IsOrdered contents end =
    (lists : List PolicyList) × (contents ≡ map (λ list. content.Policies list) lists)
    × IsBuilt (IsOrdering lists) end

-- what a command prints of what its files hold, whose policies are of this origin, or the fault of what they hold
abbrev pub IsPrinted : Form → Origin → List Content → Result Built OutputFault → Type 0
IsPrinted (OnRequests Judge) origin (content.Policies list ∷ content.Requests bytes ∷ []) end =
    IsOnRequests (IsJudged list) (requests_of bytes) end
IsPrinted (OnTwo Compare) origin (content.Policies first ∷ content.Policies second ∷ []) end =
    IsBuilt (IsComparison first second) end
IsPrinted Check origin (content.Policies first ∷ content.Policies second ∷ content.Proof text ∷ []) end =
    IsCheck first second text end
IsPrinted (Drill pairs) origin [] end = IsBuilt (IsDrill pairs) end
IsPrinted (Embed embedder) origin (content.Required policy ∷ content.Response block list ∷ []) end =
    IsBuilt (IsEmbedding embedder policy block list) end
IsPrinted Tidy origin (content.Policies list ∷ []) end = IsBuilt (IsTidying list) end
IsPrinted Learn origin (content.Requests bytes ∷ []) end = IsOnRequests (IsLearnt origin) (requests_of bytes) end
IsPrinted (OnRequests Why) origin (content.Policies list ∷ content.Requests bytes ∷ []) end =
    IsOnRequests (IsExplained list) (requests_of bytes) end
IsPrinted (OnTwo Differ) origin (content.Policies first ∷ content.Policies second ∷ []) end =
    IsBuilt (IsDiffering first second) end
IsPrinted Read origin (content.Block block ∷ []) end = IsBuilt (λ built. built ≡ told_output block) end
IsPrinted Order origin contents end = IsOrdered contents end
IsPrinted form origin contents end = ⊥

-- what ends `report` on what its files hold, and what it does to the desk; a request file that is refused hands
-- nothing out
abbrev pub IsReportOn : Result (List Violation) RequestError → Desk → Result Built Fault → Type 0
IsReportOn (Ok all) desk end = IsReport all desk end
IsReportOn (Err refused) desk (Err (fault.Output f)) = (request_fault refused ≡ Some f) × IsUntouched desk
IsReportOn (Err refused) desk end = ⊥

abbrev pub IsReported : List Content → Desk → Result Built Fault → Type 0
IsReported (content.Policies list ∷ content.Requests bytes ∷ []) desk end =
    IsReportOn (violations_in list (requests_of bytes)) desk end
IsReported contents desk end = ⊥

-- a run ends with such an output, or with such a fault of what was read
abbrev pub EndsSo : (Result Built OutputFault → Type 0) → Result Built Fault → Type 0
EndsSo Is (Ok built) = Is (Ok built)
EndsSo Is (Err (fault.Output f)) = Is (Err f)
EndsSo Is (Err f) = ⊥

-- the command that hands violations out
abbrev pub hands_out : Form → Bool
hands_out (OnRequests Report) = true
hands_out form = false

-- what ends a command on what its files hold, and what it does to the desk
abbrev pub IsOutputOf : Bool → Form → Origin → List Content → Desk → Result Built Fault → Type 0
IsOutputOf true form origin contents desk end = IsReported contents desk end
IsOutputOf false form origin contents desk end = EndsSo (IsPrinted form origin contents) end × IsUntouched desk

-- What ends a command after its files, and what it does to the desk: the files' fault, or its output on what they
-- hold. Only `report` hands anything to the desk.
abbrev pub IsOutput : Form → Origin → Result (List Content) FileFault → Desk → Result Built Fault → Type 0
IsOutput form origin (Err f) desk end = (end ≡ Err (fault.File f)) × IsUntouched desk
IsOutput form origin (Ok contents) desk end = IsOutputOf (hands_out form) form origin contents desk end

-- Each reporter took a first part of the violations of the requests that the files have.
abbrev pub GrewOn : List Content → Desk → Type 0
GrewOn (content.Policies list ∷ content.Requests bytes ∷ []) desk =
    (all : List Violation) × (violations_in list (requests_of bytes) ≡ Ok all)
    × GrewInPart all desk.held_before desk.held_now
GrewOn contents desk = ⊥
