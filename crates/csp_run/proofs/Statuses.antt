-- An output has one of two statuses.
use Rattle.std.proofs.Common.{◌≡◌, ℕ, Bool, true, false, List, [], ◌∷◌, Option, Some, None, Result, Ok, Err, inl, inr, refl, ap, sym, ◌∙◌}
use Rattle.std.proofs.Common.{cond, map}
use Rattle.std.proofs.lemmas.Bool.{false≢true}
use Rattle.std.specs.Prelude.{nat_le, length}
use Rattle.csp_learn.specs.Logs.{lesson_of}
use Rattle.csp_learn.specs.Needs.{need_limit}
use Rattle.csp_learn.specs.Policies.{policy_for}
use Rattle.csp_learn.specs.declared.learnt.Place.{Place}
use Rattle.csp_model.specs.declared.policy.Policy.{Policy}
use Rattle.csp_model.specs.declared.policy.PolicyList.{PolicyList}
use Rattle.csp_model.specs.declared.url.Origin.{Origin}
use Rattle.csp_output.specs.Embeddings.{IsEmbedding}
use Rattle.csp_model.specs.declared.verdict.Described.{Described}
use Rattle.csp_model.specs.declared.verdict.Violation.{Violation}
use Rattle.csp_request.specs.Requests.{requests_of}
use Rattle.csp_request.specs.declared.error.RequestError.{RequestError}
use Rattle.csp_run.specs.declared.fault.WordsFault.{WordsFault}
use Rattle.csp_run.specs.declared.fault.OutputFault.{OutputFault}
use Rattle.csp_run.specs.declared.fault.FileFault.{FileFault}
use Rattle.csp_run.specs.Contents.{Content}
use Rattle.csp_run.specs.Contents as content
use Rattle.csp_output.specs.declared.built.Built.{Built}
use Rattle.csp_run.specs.declared.plan.Compared.TheVariants.{Compare, Differ}
use Rattle.csp_run.specs.declared.plan.Judged.TheVariants.{Judge, Why}
use Rattle.csp_run.specs.Forms.{Form}
use Rattle.csp_run.specs.Forms.{OnRequests, OnTwo, Check, Drill, Embed, Tidy, Learn, Order, Read}
use Rattle.csp_output.specs.declared.status.Status.{Status}
use Rattle.csp_output.specs.declared.status.Status.TheVariants.{Clean, Found}
use Rattle.csp_compare.specs.declared.differences.Difference.{Difference}
use Rattle.csp_output.specs.Differing.{output_of}
use Rattle.csp_output.specs.Checks.{checked}
use Rattle.csp_output.specs.Comparisons.{IsAnswerWith}
use Rattle.csp_desk.specs.Desk.{Desk}
use Rattle.csp_run.specs.Due.{End, IsEndOf}
use Rattle.csp_run.specs.Files.{World}
use Rattle.csp_output.specs.Learnt.{learnt_output}
use Rattle.csp_output.specs.Lines.{judgment}
use Rattle.csp_run.specs.Outputs.{IsExplained, IsJudged, IsLearnt, IsOnRequests, IsOutput, IsOutputOf, IsPrinted, IsReportOn, IsReported, hands_out, learnt_or_fault}
use Rattle.csp_output.specs.Reports.{violations_in}
use Rattle.csp_output.specs.Explanations.{explanation}
use Rattle.csp_run.specs.Words.{Plan}

-- the statuses of outputs
abbrev pub is_done : Status → Bool
is_done Clean = true
is_done Found = true
is_done status = false

clean_or_found : (b : Bool) → is_done (cond b Found Clean) ≡ true
clean_or_found true = refl
clean_or_found false = refl

on_requests : {A : Type 0} (Is : A → Result Built OutputFault → Type 0) (found : Result A RequestError) (built : Built)
    → ((a : A) → Is a (Ok built) → is_done built.status ≡ true) → IsOnRequests Is found (Ok built)
    → is_done built.status ≡ true
on_requests Is (Ok a) built done is = done a is
on_requests Is (Err refused) built done is = absurd is

judged_done : (list : PolicyList) (requests : List Described) (built : Built) → IsJudged list requests (Ok built)
    → is_done built.status ≡ true
judged_done list requests built is =
    let same : built ≡ judgment list (map (λ (d : Described). d.checks) requests) = cc is in
    ap (λ (b : Built). is_done b.status) same ∙ clean_or_found _

explained_done : (list : PolicyList) (requests : List Described) (built : Built) → IsExplained list requests (Ok built)
    → is_done built.status ≡ true
explained_done list requests built is =
    let same : built ≡ explanation list requests = cc is in
    ap (λ (b : Built). is_done b.status) same ∙ clean_or_found _

compared_done : (status : Status) (first second : PolicyList) (text : List ℕ)
    → IsAnswerWith status first second text → is_done status ≡ true
compared_done Clean first second text is = refl
compared_done Found first second text is = refl
compared_done status first second text is = absurd is

differing_done : (second : PolicyList) (entries : List Difference) → is_done (output_of second entries).status ≡ true
differing_done second [] = refl
differing_done second (entry ∷ entries) = refl

checked_status : (bad : Option ℕ) → is_done (checked bad).status ≡ true
checked_status None = refl
checked_status (Some line) = refl

embedded_done : (embedder : Origin) (policy : Policy) (block : List ℕ) (list : PolicyList) (built : Built)
    → IsEmbedding embedder policy block list built → is_done built.status ≡ true
embedded_done embedder policy block list built is = elim is [
  | inl added ↦ ap (λ (b : Built). is_done b.status) added.1
  | inr own ↦ ap is_done own.1.status ∙ compared_done own.1.compared.status _ _ _ own.1.answer
]

limited_done : (few : Bool) (policy : Policy) (left : List Place) (built : Built)
    → Ok built ≡ learnt_or_fault (cond few (Some (learnt_output policy left)) None) → is_done built.status ≡ true
limited_done true policy left built is =
    let same : built ≡ learnt_output policy left = cc is in ap (λ (b : Built). is_done b.status) same
limited_done false policy left built is = absurd (cc is)

learnt_done : (o : Origin) (requests : List Described) (built : Built) → IsLearnt o requests (Ok built)
    → is_done built.status ≡ true
learnt_done o requests built is =
    limited_done (nat_le (length (lesson_of requests).needs) need_limit) (policy_for o (lesson_of requests).needs)
    (lesson_of requests).left built is

printed_done : (form : Form) (o : Origin) (contents : List Content) (built : Built) → IsPrinted form o contents (Ok built)
    → is_done built.status ≡ true
printed_done (OnRequests Judge) o (content.Policies list ∷ content.Requests bytes ∷ []) built is =
    on_requests (IsJudged list) (requests_of bytes) built (λ requests. judged_done list requests built) is
printed_done (OnTwo Compare) o (content.Policies first ∷ content.Policies second ∷ []) built is =
    compared_done built.status first second built.text is
printed_done Check o (content.Policies first ∷ content.Policies second ∷ content.Proof text ∷ []) built is =
    ap (λ (b : Built). is_done b.status) is.output ∙ checked_status _
printed_done (Drill pairs) o [] built is = ap is_done is.status
printed_done (Embed embedder) o (content.Required policy ∷ content.Response block list ∷ []) built is =
    embedded_done embedder policy block list built is
printed_done Tidy o (content.Policies list ∷ []) built is = ap is_done is.status
printed_done Learn o (content.Requests bytes ∷ []) built is =
    on_requests (IsLearnt o) (requests_of bytes) built (λ requests. learnt_done o requests built) is
printed_done (OnRequests Why) o (content.Policies list ∷ content.Requests bytes ∷ []) built is =
    on_requests (IsExplained list) (requests_of bytes) built (λ requests. explained_done list requests built) is
printed_done (OnTwo Differ) o (content.Policies first ∷ content.Policies second ∷ []) built is =
    ap (λ (b : Built). is_done b.status) is.printed ∙ differing_done second is.entries
printed_done Read o (content.Block block ∷ []) built is = ap (λ (b : Built). is_done b.status) is
printed_done Order o contents built is = ap is_done is.2.status
printed_done form o contents built is = absurd is

-- what is known of a report is known of the violations that its files have
pub reported_on : {P : Type 0} (contents : List Content) (desk : Desk) (end : End) → IsReported contents desk end
    → ((found : Result (List Violation) RequestError) → IsReportOn found desk end → P) → P
reported_on (content.Policies list ∷ content.Requests bytes ∷ []) desk end is so =
    so (violations_in list (requests_of bytes)) is
reported_on contents desk end is so = absurd is

reported_done : (desk : Desk) (built : Built) (found : Result (List Violation) RequestError)
    → IsReportOn found desk (Ok built) → is_done built.status ≡ true
reported_done desk built (Ok all) is = ap (λ (b : Built). is_done b.status) is.0
reported_done desk built (Err refused) is = absurd is

output_done : (hands : Bool) (form : Form) (o : Origin) (contents : List Content) (desk : Desk) (built : Built)
    → IsOutputOf hands form o contents desk (Ok built) → is_done built.status ≡ true
output_done true form o contents desk built is = reported_on contents desk (Ok built) is (reported_done desk built)
output_done false form o contents desk built is = printed_done form o contents built is.0

found_done : (form : Form) (o : Origin) (found : Result (List Content) FileFault) (desk : Desk) (built : Built)
    → IsOutput form o found desk (Ok built) → is_done built.status ≡ true
found_done form o (Err f) desk built is = absurd (cc is.0)
found_done form o (Ok contents) desk built is = output_done (hands_out form) form o contents desk built is

ended_done : (w : World) (desk : Desk) (asked : Result Plan WordsFault) (built : Built) → IsEndOf w desk asked (Ok built)
    → is_done built.status ≡ true
ended_done w desk (Err f) built is = absurd (cc is.0)
ended_done w desk (Ok plan) built is = found_done plan.form plan.origin is.0 desk built is.2

-- another status is none of an output
pub no_output : (w : World) (desk : Desk) (asked : Result Plan WordsFault) (built : Built) (status : Status)
    → IsEndOf w desk asked (Ok built)
    → is_done status ≡ false → built.status ≡ status → ⊥
no_output w desk asked built status is other same =
    false≢true (sym other ∙ ap is_done (sym same) ∙ ended_done w desk asked built is)
