-- What clauses of private functions cite: plans and what their files hold as contracts see them, what was read,
-- and what is printed.
use Rattle.std.specs.Prelude.{◌≡◌, ◌≢◌, ◌≤◌, ◌++◌, ⊤, ℕ, List, [], ◌∷◌, length, map, All, Option, Some, None, Result, Ok, Err}
use Rattle.csp_embed.specs.Decisions.{alone}
use Rattle.csp_desk.specs.Texts.{desk_text}
use Rattle.csp_desk.specs.declared.reporter.Kind.{Kind}
use Rattle.csp_desk.specs.declared.desk.DeskError.{DeskError}
use Rattle.csp_desk.specs.declared.desk.DeskError.TheVariants.{Refused, Memory}
use Rattle.csp_io.specs.declared.log.Start.{Start}
use Rattle.csp_io.specs.declared.inputs.Inputs.{Ghosts}
use Rattle.csp_learn.specs.declared.error.LearnError.{LearnError}
use Rattle.csp_learn.specs.declared.error.LearnError.TheVariants as learn_error
use Rattle.csp_model.specs.Policies.{IsReadable}
use Rattle.csp_model.specs.declared.policy.Disposition.TheVariants.{Enforce}
use Rattle.csp_model.specs.declared.policy.PolicyList.{PolicyList}
use Rattle.csp_model.specs.declared.url.Origin.{Origin}
use Rattle.csp_model.specs.declared.verdict.Violation.{Violation}
use Rattle.csp_output.specs.declared.built.Built.{Built}
use Rattle.csp_output.specs.declared.status.Status.TheVariants.{Clean}
use Rattle.csp_proof.specs.declared.error.ProofError.{ProofError}
use Rattle.csp_proof.specs.declared.error.ProofError.TheVariants as proof_error
use Rattle.csp_url.specs.declared.error.OriginError.{OriginError}
use Rattle.csp_url.specs.declared.error.OriginError.TheVariants as origin_error
use Rattle.csp_run.specs.Contents as content
use Rattle.csp_run.specs.Files.{AreOf, AreRead, World, file_fault, file_limit, policies_content, read_fault, read_list, read_within, world}
use Rattle.csp_run.specs.Forms.{Form, OnRequests, OnTwo, Check, Drill, Embed, Tidy, Learn, Order, Read}
use Rattle.csp_run.specs.Words as words
use Rattle.csp_run.specs.Words.{File, files_from}
use Rattle.csp_run.specs.declared.fault.Cause.{Cause}
use Rattle.csp_run.specs.declared.fault.Fault.{Fault}
use Rattle.csp_run.specs.declared.fault.Fault.TheVariants as fault
use Rattle.csp_run.specs.declared.fault.FileFault.{FileFault}
use Rattle.csp_run.specs.declared.fault.Limit.TheVariants.{Sources}
use Rattle.csp_run.specs.declared.fault.OutputFault.{OutputFault}
use Rattle.csp_run.specs.declared.fault.OutputFault.TheVariants.{BadProof, TooLarge}
use Rattle.csp_run.specs.declared.fault.Role.{Role}
use Rattle.csp_run.specs.declared.fault.Role.TheVariants as role
use Rattle.csp_run.specs.declared.fault.WordsFault.{WordsFault}
use Rattle.csp_run.specs.declared.fault.WordsFault.TheVariants.{BadOrigin}
use Rattle.csp_run.specs.declared.files.Operands.{Operands}
use Rattle.csp_run.specs.declared.files.Operands.TheVariants as operands
use Rattle.csp_run.specs.declared.output.Outcome.{Outcome}
use Rattle.csp_run.specs.declared.output.Outcome.TheVariants.{Text, Reporters}
use Rattle.csp_run.specs.declared.plan.Command.{Command}
use Rattle.csp_run.specs.declared.plan.Command.TheVariants as command
use Rattle.csp_run.specs.declared.plan.Plan.{Plan}

-- Plans

abbrev pub form_of : Command → Form
form_of (command.Judged does policy requests) = OnRequests does
form_of (command.Compared does first second) = OnTwo does
form_of (command.Checked first second proof) = Check
form_of (command.Drill pairs) = Drill pairs
form_of (command.Embedded embedder required response) = Embed embedder
form_of (command.Tidied policy) = Tidy
form_of (command.Learnt requests) = Learn
form_of (command.Ordered lists) = Order
form_of (command.Block block) = Read

abbrev pub file_as : Role → List ℕ → File
file_as role name = record { role = role; name = name }

abbrev pub files_of : Command → List File
files_of (command.Judged does policy requests) =
    file_as role.Policy policy.now ∷ file_as role.Requests requests.now ∷ []
files_of (command.Compared does first second) =
    file_as role.First first.now ∷ file_as role.Second second.now ∷ []
files_of (command.Checked first second proof) =
    file_as role.First first.now ∷ file_as role.Second second.now ∷ file_as role.Proof proof.now ∷ []
files_of (command.Drill pairs) = []
files_of (command.Embedded embedder required response) =
    file_as role.Required required.now ∷ file_as role.Response response.now ∷ []
files_of (command.Tidied policy) = file_as role.Policy policy.now ∷ []
files_of (command.Learnt requests) = file_as role.Requests requests.now ∷ []
files_of (command.Ordered lists) = files_from 1 lists.now
files_of (command.Block block) = file_as role.Block block.now ∷ []

-- a command as contracts see it
abbrev pub as_command : Command → words.Command
as_command asked = record { form = form_of asked; files = files_of asked }

abbrev pub AreMany : {A : Type 0} → List A → Type 0
AreMany items = (2 ≤ length items) × (length items ≤ 16)

-- what is promised of a command besides what it is
abbrev pub IsAsked : Command → Type 0
IsAsked (command.Ordered lists) = AreMany lists.now
IsAsked asked = ⊤

abbrev pub planned : Result Plan Fault → Result words.Plan Fault
planned (Ok plan) = Ok (record { form = form_of plan.command; origin = plan.origin; files = files_of plan.command })
planned (Err f) = Err f

abbrev pub words_end : {A : Type 0} → Result A WordsFault → Result A Fault
words_end (Ok plan) = Ok plan
words_end (Err f) = Err (fault.Words f)

-- the fault of a word that is no origin
abbrev pub origin_fault : OriginError → Fault
origin_fault origin_error.BadOrigin = fault.Words BadOrigin
origin_fault origin_error.Memory = fault.Memory

-- What files hold

abbrev pub read_form : Operands → Form
read_form (operands.Judged does list requests) = OnRequests does
read_form (operands.Compared does first second) = OnTwo does
read_form (operands.Checked first second proof) = Check
read_form (operands.Drill pairs) = Drill pairs
read_form (operands.Embedded embedder required block response) = Embed embedder
read_form (operands.Tidied list) = Tidy
read_form (operands.Learnt requests) = Learn
read_form (operands.Ordered lists) = Order
read_form (operands.Block block) = Read

abbrev pub policies_of : List PolicyList → List content.Content
policies_of lists = map (λ list. content.Policies list) lists

abbrev pub contents_of : Operands → List content.Content
contents_of (operands.Judged does list requests) = content.Policies list ∷ content.Requests requests ∷ []
contents_of (operands.Compared does first second) = content.Policies first ∷ content.Policies second ∷ []
contents_of (operands.Checked first second proof) =
    content.Policies first ∷ content.Policies second ∷ content.Proof proof ∷ []
contents_of (operands.Drill pairs) = []
contents_of (operands.Embedded embedder required block response) =
    content.Required required ∷ content.Response block response ∷ []
contents_of (operands.Tidied list) = content.Policies list ∷ []
contents_of (operands.Learnt requests) = content.Requests requests ∷ []
contents_of (operands.Ordered lists) = policies_of lists
contents_of (operands.Block block) = content.Block block ∷ []

-- what is promised of it besides what it is
abbrev pub IsSound : Operands → Type 0
IsSound (operands.Judged does list requests) = IsReadable list
IsSound (operands.Compared does first second) = IsReadable first × IsReadable second
IsSound (operands.Checked first second proof) =
    IsReadable first × IsReadable second × (length proof ≤ file_limit role.Proof)
IsSound (operands.Drill pairs) = ⊤
IsSound (operands.Embedded embedder required block response) =
    (required.disposition ≡ Enforce) × IsReadable (alone required) × IsReadable response
IsSound (operands.Tidied list) = IsReadable list
IsSound (operands.Learnt requests) = ⊤
IsSound (operands.Ordered lists) = AreMany lists × All IsReadable lists
IsSound (operands.Block block) = ⊤

-- Reading

abbrev pub files_end : {A : Type 0} → Result A FileFault → Result A Fault
files_end (Ok held) = Ok held
files_end (Err f) = Err (fault.File f)

-- the fault of a file that has such a cause, or else want of memory
abbrev pub file_or_memory : Role → Option Cause → Fault
file_or_memory file (Some cause) = fault.File (file_fault file cause)
file_or_memory file None = fault.Memory

-- what is found of these files by these starts ends their reading so
abbrev pub AreReadSo : World → Origin → List File → List Start → Result (List content.Content) Fault → Type 0
AreReadSo w origin files starts (Ok contents) = AreRead w origin files starts (Ok contents)
AreReadSo w origin files starts (Err (fault.File f)) = AreRead w origin files starts (Err f)
AreReadSo w origin files starts (Err f) = ⊥

-- What a call does to its inputs that starts no other files than the first of these: their log grows by its starts.
pub record Starts (S : Type 0) (inputs : Ghosts S) (old now : S) (files : List File) : Type 0 where
  pub started : AreOf (world inputs old now).log files
  pub log : inputs.log now ≡ inputs.log old ++ (world inputs old now).log
  pub contents : (n : List ℕ) → inputs.contents now n ≡ inputs.contents old n
  pub later : (n : List ℕ) → inputs.faults old n ≤ inputs.faults now n

-- and one that reads these files, and ends so
pub record Reads (S : Type 0) (inputs : Ghosts S) (old now : S) (origin : Origin) (files : List File)
    (end : Result (List content.Content) Fault) : Type 0 where
  pub starts : Starts S inputs old now files
  pub read : end ≢ Err fault.Memory → AreReadSo (world inputs old now) origin files (world inputs old now).log end
  pub no_fault : ((file : Role) → end ≢ Err (read_fault file)) → (n : List ℕ)
      → inputs.faults now n ≡ inputs.faults old n

abbrev pub HasStarted : {S : Type 0} → Ghosts S → S → S → List File → Type 0
HasStarted {S} inputs old now files = Starts S inputs old now files

abbrev pub HasReadFiles : {S : Type 0} → Ghosts S → S → S → Origin → List File → Result (List content.Content) Fault
    → Type 0
HasReadFiles {S} inputs old now origin files end = Reads S inputs old now origin files end

-- the contents of files, by what is read of them
abbrev pub contents_end : {A : Type 0} → (A → List content.Content) → Result A Fault → Result (List content.Content) Fault
contents_end contents (Ok held) = Ok (contents held)
contents_end contents (Err f) = Err f

-- the content of one file
abbrev pub content_end : {A : Type 0} → (A → content.Content) → Result A Fault → Result (List content.Content) Fault
content_end one result = contents_end (λ held. one held ∷ []) result

abbrev pub only_content : Result content.Content FileFault → Result (List content.Content) Fault
only_content (Ok one) = Ok (one ∷ [])
only_content (Err f) = Err (fault.File f)

-- the content of a file of this role, by its bytes
abbrev pub bytes_end : Origin → Role → Result (List ℕ) Fault → Result (List content.Content) Fault
bytes_end origin file (Ok bytes) = only_content (read_within origin file bytes)
bytes_end origin file (Err f) = Err f

-- the same of a header block that was read
abbrev pub header_end : Origin → Role → Result (List ℕ × PolicyList) Fault → Result (List content.Content) Fault
header_end origin file (Ok held) = only_content (read_within origin file held.0)
header_end origin file (Err f) = Err f

-- a file of this role has a header block, of which a policy list is read first of all
abbrev pub IsHeader : Origin → Role → Type 0
IsHeader origin file = (bytes : List ℕ) (f : FileFault) → read_list origin file bytes ≡ Err f
    → read_within origin file bytes ≡ Err f

-- and nothing else
abbrev pub HoldsPolicies : Origin → Role → Type 0
HoldsPolicies origin file = (bytes : List ℕ)
    → read_within origin file bytes ≡ policies_content (read_list origin file bytes)

-- Outputs

-- the fault of what was read, or else want of memory
abbrev pub output_or_memory : Option OutputFault → Fault
output_or_memory (Some f) = fault.Output f
output_or_memory None = fault.Memory

-- the fault of a log from which no policy is learnt
abbrev pub learn_fault : LearnError → Fault
learn_fault learn_error.TooManySources = fault.Output (TooLarge Sources)
learn_fault learn_error.Memory = fault.Memory

-- the fault of a text that is no proof's
abbrev pub proof_fault : ProofError → Fault
proof_fault (proof_error.BadProof line) = fault.Output (BadProof line)
proof_fault proof_error.Memory = fault.Memory

-- How a run ends with what a command prints, where reporters of these kinds hold these violations.
abbrev pub end_of : List Kind → List (List Violation) → Result Outcome Fault → Result Built Fault
end_of kinds helds (Ok (Text built)) = Ok built
end_of kinds helds (Ok Reporters) = Ok (record { status = Clean; text = desk_text kinds helds })
end_of kinds helds (Err f) = Err f

-- What is printed of an end: its text, or, where it isn't a fault, that memory was wanting for it.
pub record IsPrintedOf (end printed : Result Built Fault) : Type 0 where
  pub text : printed ≢ Err fault.Memory → printed ≡ end
  pub fault : (f : Fault) → end ≡ Err f → printed ≡ Err f

-- the fault of what stops the handing out of violations
abbrev pub desk_fault : DeskError → Fault
desk_fault (Refused reporter) = fault.Refused reporter
desk_fault Memory = fault.Memory
