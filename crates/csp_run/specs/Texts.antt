-- The texts of faults, and the statuses that they end with.
use Rattle.std.specs.Prelude.{ℕ, List, [], ◌∷◌, codes, decimal}
use Rattle.std.specs.List.{flat_map}
use Rattle.csp_request.specs.Members.{field_text}
use Rattle.csp_run.specs.declared.fault.Role.{Role}
use Rattle.csp_run.specs.declared.fault.Role.TheVariants as role
use Rattle.csp_run.specs.declared.fault.Limit.{Limit}
use Rattle.csp_run.specs.declared.fault.Limit.TheVariants as limit
use Rattle.csp_run.specs.declared.fault.Cause.{Cause}
use Rattle.csp_run.specs.declared.fault.Cause.TheVariants as cause
use Rattle.csp_run.specs.declared.fault.Fault.{Fault}
use Rattle.csp_run.specs.declared.fault.Fault.TheVariants as fault
use Rattle.csp_run.specs.declared.fault.OutputFault.{OutputFault}
use Rattle.csp_run.specs.declared.fault.OutputFault.TheVariants as output
use Rattle.csp_run.specs.declared.fault.WordsFault.{WordsFault}
use Rattle.csp_run.specs.declared.fault.WordsFault.TheVariants as words
use Rattle.csp_run.specs.Words.{usage}
use Rattle.csp_output.specs.declared.status.Status.{Status}
use Rattle.csp_output.specs.declared.status.Status.TheVariants as status

-- the name of a file's role, without its number
unfoldable pub role_word : Role → List ℕ
role_word role.Policy = codes "policy"
role_word role.Requests = codes "requests"
role_word role.Block = codes "policy"
role_word role.First = codes "first"
role_word role.Second = codes "second"
role_word role.Proof = codes "proof"
role_word role.Required = codes "required"
role_word role.Response = codes "response"
role_word (role.List number) = codes "list "

-- its number, where there are many of its kind
unfoldable pub role_number : Role → List ℕ
role_number (role.List number) = decimal number
role_number file = []

unfoldable pub limit_text : Limit → List ℕ
limit_text limit.Bytes = codes "bytes"
limit_text limit.Policies = codes "policies"
limit_text limit.Sources = codes "sources"
limit_text limit.Token = codes "token"
limit_text limit.Requests = codes "requests"
limit_text limit.Hops = codes "hops"

-- the pieces of the line that is written for words that ask for nothing
unfoldable pub words_pieces : WordsFault → List (List ℕ)
words_pieces words.Usage = usage
words_pieces words.BadOrigin = codes "bad origin" ∷ [] ∷ [] ∷ [] ∷ [] ∷ codes "\n" ∷ []

-- for a file of which nothing is read
unfoldable pub file_pieces : Role → Cause → List (List ℕ)
file_pieces file cause.Read =
    codes "read fault: " ∷ role_word file ∷ role_number file ∷ [] ∷ [] ∷ codes "\n" ∷ []
file_pieces file (cause.TooLarge limit) =
    codes "too large: " ∷ role_word file ∷ role_number file ∷ codes " " ∷ limit_text limit ∷ codes "\n" ∷ []
file_pieces file (cause.BadPolicy line) =
    codes "bad policy: " ∷ role_word file ∷ role_number file ∷ codes " line " ∷ decimal line ∷ codes "\n" ∷ []
file_pieces file cause.BadRequired = codes "bad required policy" ∷ [] ∷ [] ∷ [] ∷ [] ∷ codes "\n" ∷ []

-- and for what was read and gives no output
unfoldable pub output_pieces : OutputFault → List (List ℕ)
output_pieces output.NotJson = codes "bad requests: not a JSON array" ∷ [] ∷ [] ∷ [] ∷ [] ∷ codes "\n" ∷ []
output_pieces (output.TooLarge limit) =
    codes "too large: requests " ∷ limit_text limit ∷ [] ∷ [] ∷ [] ∷ codes "\n" ∷ []
output_pieces (output.BadRequest request field) =
    codes "bad requests: request " ∷ decimal request ∷ codes " " ∷ field_text field ∷ [] ∷ codes "\n" ∷ []
output_pieces (output.BadProof line) =
    codes "bad proof: line " ∷ decimal line ∷ [] ∷ [] ∷ [] ∷ codes "\n" ∷ []

-- the pieces of the line that is written for a fault
unfoldable pub fault_pieces : Fault → List (List ℕ)
fault_pieces (fault.Words f) = words_pieces f
fault_pieces (fault.File f) = file_pieces f.file f.cause
fault_pieces (fault.Output f) = output_pieces f
fault_pieces (fault.Refused reporter) =
    codes "reporter fault: " ∷ decimal reporter ∷ [] ∷ [] ∷ [] ∷ codes "\n" ∷ []
fault_pieces fault.Memory = codes "no memory" ∷ [] ∷ [] ∷ [] ∷ [] ∷ codes "\n" ∷ []

-- the line
abbrev pub fault_text : Fault → List ℕ
fault_text f = flat_map (λ piece. piece) (fault_pieces f)

abbrev pub words_status : WordsFault → Status
words_status words.Usage = status.Usage
words_status words.BadOrigin = status.BadOrigin

abbrev pub cause_status : Cause → Status
cause_status cause.Read = status.ReadFault
cause_status (cause.TooLarge limit) = status.TooLarge
cause_status (cause.BadPolicy line) = status.BadPolicy
cause_status cause.BadRequired = status.BadRequired

abbrev pub output_status : OutputFault → Status
output_status output.NotJson = status.BadRequests
output_status (output.TooLarge limit) = status.TooLarge
output_status (output.BadRequest request field) = status.BadRequests
output_status (output.BadProof line) = status.BadProof

abbrev pub status_of : Fault → Status
status_of (fault.Words f) = words_status f
status_of (fault.File f) = cause_status f.cause
status_of (fault.Output f) = output_status f
status_of (fault.Refused reporter) = status.ReporterFault
status_of fault.Memory = status.NoMemory
