-- A run of `why` ends as one of `judge` does.
use Rattle.std.proofs.Common.{◌≡◌, ◌≢◌, ◌↔◌, ◌∙◌, sym, ap, subst, ℕ, List, map, Result, Ok}
use Rattle.csp_model.specs.declared.policy.PolicyList.{PolicyList}
use Rattle.csp_model.specs.declared.verdict.Described.{Described}
use Rattle.csp_output.specs.Lines.{judgment}
use Rattle.csp_output.specs.declared.status.Status.{Status}
use Rattle.csp_output.specs.declared.status.Status.TheVariants.{Clean, Found, NoMemory}
use Rattle.csp_output.specs.Explanations.{explanation}
use Rattle.csp_run.specs.Commands.{AsksFor, Wrote}
use Rattle.csp_desk.specs.Desk.{Desk}
use Rattle.csp_run.specs.Due.{end_status, end_text}
use Rattle.csp_run.specs.Files.{World}
use Rattle.csp_run.specs.Laws.{AreRequests}
use Rattle.csp_run.specs.Outputs.{EndsSo, IsExplained, IsOnRequests, IsOutput}
use Rattle.csp_run.specs.Words.{Plan}
use Rattle.csp_run.specs.declared.fault.FileFault.{FileFault}
use Rattle.csp_run.specs.Contents.{Content}
use Rattle.csp_run.specs.Forms.{Why}
use Rattle.csp_run.proofs.Commands.{written_output}
use Rattle.csp_run.proofs.Ends.{AllowsEach, BlocksWhatIsRefused, RefusesSome, SaysOfRequests, built_ends, clean_says, found_says}
use Rattle.csp_request.specs.declared.error.RequestError.{RequestError}

abbrev pub EndsAsJudge : Type 0
EndsAsJudge = (list : PolicyList) (requests : List Described)
    → (explanation list requests).status ≡ (judgment list (map (λ (d : Described). d.checks) requests)).status

abbrev Explains : PolicyList → List Described → Status → List ℕ → Type 0
Explains list requests status text =
    (status ≡ (explanation list requests).status) × (text ≡ (explanation list requests).text)

explained_end : (w : World) (desk : Desk) (words : List (List ℕ)) (plan : Plan) (status : Status) (text : List ℕ)
    (list : PolicyList) (requests : List Described) → AsksFor words Why plan → Wrote w desk words status text
    → status ≢ NoMemory → AreRequests w plan list requests → Explains list requests status text
explained_end w desk words plan status text list requests asks wrote other read =
    let P : Result (List Content) FileFault → Type 0 = λ found. IsOutput Why plan.origin found desk wrote.end in
    let Q : Result (List Described) RequestError → Type 0 =
    λ found. EndsSo (IsOnRequests (IsExplained list) found) wrote.end in
    let is : wrote.end ≡ Ok (explanation list requests) =
    built_ends (explanation list requests) wrote.end
    (subst Q read.described (subst P read.files (written_output w desk words plan status text Why asks wrote other)).0) in
    (wrote.status_is ∙ ap end_status is, wrote.text_is ∙ ap end_text is)

pub explained_text : (w : World) (desk : Desk) (words : List (List ℕ)) (plan : Plan) (status : Status) (text : List ℕ)
    (list : PolicyList) (requests : List Described) → AsksFor words Why plan → Wrote w desk words status text
    → status ≢ NoMemory → AreRequests w plan list requests → text ≡ (explanation list requests).text
explained_text w desk words plan status text list requests asks wrote other read =
    (explained_end w desk words plan status text list requests asks wrote other read).1

abbrev pub WhyEndsSo : Status → (PolicyList → List Described → Type 0) → Type 0
WhyEndsSo s Says = (w : World) (desk : Desk) (words : List (List ℕ)) (plan : Plan) (status : Status) (text : List ℕ)
    (list : PolicyList) (requests : List Described) → AsksFor words Why plan → Wrote w desk words status text
    → status ≢ NoMemory → AreRequests w plan list requests → (status ≡ s) ↔ Says list requests

ends_so : EndsAsJudge → (s : Status) (Says : PolicyList → List Described → Type 0) → SaysOfRequests s Says
    → WhyEndsSo s Says
ends_so law s Says says w desk words plan status text list requests asks wrote other read =
    let is = (explained_end w desk words plan status text list requests asks wrote other read).0 ∙ law list requests in
    let exact = says list requests in
    (λ same. exact.0 (sym is ∙ same), λ so. is ∙ exact.1 so)

pub clean_so : EndsAsJudge → BlocksWhatIsRefused → WhyEndsSo Clean AllowsEach
clean_so law blocks = ends_so law Clean AllowsEach (clean_says blocks)

pub found_so : EndsAsJudge → BlocksWhatIsRefused → WhyEndsSo Found RefusesSome
found_so law blocks = ends_so law Found RefusesSome (found_says blocks)
