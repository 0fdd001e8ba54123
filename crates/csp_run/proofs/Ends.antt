-- How `compare` and `judge` end, by the files that were read.
use Rattle.std.proofs.Common.{◌≡◌, ◌≢◌, ◌↔◌, ◌∙◌, sym, ap, subst, refl, ℕ, Bool, true, false, cond, not, ◌||◌, get_or, List, [], ◌∷◌, map, Result, Ok, Err, All, Any}
use Rattle.std.proofs.lemmas.Bool.{false≢true}
use Rattle.std.proofs.lemmas.List.Folds.{Any-from_list_any, list_any-from_Any, list_any_at, list_any_none}
use Rattle.std.specs.List.{list_any}
use Rattle.csp_model.specs.Inclusion.{Subsumes}
use Rattle.csp_model.specs.Verdict.{allows_all, verdict_of}
use Rattle.csp_model.specs.declared.check.Check.{Check}
use Rattle.csp_model.specs.declared.policy.PolicyList.{PolicyList}
use Rattle.csp_model.specs.declared.verdict.Described.{Described}
use Rattle.csp_model.specs.declared.verdict.Verdict.{Verdict}
use Rattle.csp_request.specs.Requests.{requests_of}
use Rattle.csp_request.specs.declared.error.RequestError.{RequestError}
use Rattle.csp_output.specs.Comparisons.{IsComparison}
use Rattle.csp_output.specs.Lines.{judgment}
use Rattle.csp_output.specs.declared.built.Built.{Built}
use Rattle.csp_output.specs.declared.status.Status.{Status}
use Rattle.csp_output.specs.declared.status.Status.TheVariants as status
use Rattle.csp_output.proofs.OneStatus.{clean_where_subsumed, found_where_not}
use Rattle.csp_desk.specs.Desk.{Desk}
use Rattle.csp_run.specs.Due.{End, IsDue, IsEndOf, end_status}
use Rattle.csp_run.specs.Files.{World, found_in}
use Rattle.csp_run.specs.Laws.{AreLists, AreRequests}
use Rattle.csp_run.specs.Outputs.{EndsSo, IsBuilt, IsJudged, IsOnRequests, IsOutput, IsPrinted}
use Rattle.csp_run.specs.Texts.{cause_status, output_status, status_of}
use Rattle.csp_run.specs.Words.{Plan, plan_of}
use Rattle.csp_run.specs.declared.fault.Fault.{Fault}
use Rattle.csp_run.specs.declared.fault.Cause.{Cause}
use Rattle.csp_run.specs.declared.fault.Cause.TheVariants as cause
use Rattle.csp_run.specs.declared.fault.Fault.TheVariants as fault
use Rattle.csp_run.specs.declared.fault.OutputFault.{OutputFault}
use Rattle.csp_run.specs.declared.fault.OutputFault.TheVariants as output
use Rattle.csp_run.specs.declared.fault.WordsFault.{WordsFault}
use Rattle.csp_run.specs.declared.fault.WordsFault.TheVariants as words
use Rattle.csp_run.specs.declared.fault.FileFault.{FileFault}
use Rattle.csp_run.specs.Contents.{Content}
use Rattle.csp_run.specs.Contents as content
use Rattle.csp_run.specs.Forms.{Form}
use Rattle.csp_run.specs.Forms.{Judge, Compare}
use Rattle.csp_run.proofs.InLog.{found_there}
use Rattle.csp_run.proofs.Statuses.{is_done}

-- no fault has the status of an output

cause_not_done : (c : Cause) → is_done (cause_status c) ≡ false
cause_not_done cause.Read = refl
cause_not_done c = refl

output_not_done : (f : OutputFault) → is_done (output_status f) ≡ false
output_not_done output.NotJson = refl
output_not_done f = refl

fault_not_done : (f : Fault) → is_done (status_of f) ≡ false
fault_not_done (fault.Words words.Usage) = refl
fault_not_done (fault.Words words.BadOrigin) = refl
fault_not_done (fault.File f) = cause_not_done f.cause
fault_not_done (fault.Output f) = output_not_done f
fault_not_done f = refl

pub not_by_fault : (f : Fault) (end : End) (s : Status) → is_done s ≡ true → end ≡ Err f → end_status end ≡ s → ⊥
not_by_fault f end s done is same =
    false≢true (sym (fault_not_done f) ∙ ap (λ (e : End). is_done (end_status e)) (sym is) ∙ ap is_done same ∙ done)

-- a run ends so only where this says something of it
pub none_ends : (Is : Result Built OutputFault → Type 0) → ((end : Result Built OutputFault) → Is end → ⊥)
    → (end : End) → EndsSo Is end → ⊥
none_ends Is none (Ok built) is = none (Ok built) is
none_ends Is none (Err (fault.Output f)) is = none (Err f) is
none_ends Is none (Err f) is = is

pub fault_ends : (Is : Built → Type 0) (f : Fault) → EndsSo (IsBuilt Is) (Err f) → ⊥
fault_ends Is (fault.Output f) is = is
fault_ends Is f is = is

pub built_ends : (built : Built) (end : End) → EndsSo (λ e. e ≡ Ok built) end → end ≡ Ok built
built_ends built (Ok other) is = let same : other ≡ built = cc is in ap (λ (b : Built). Ok b) same
built_ends built (Err (fault.Output f)) is = absurd (cc is)
built_ends built (Err f) is = absurd is

-- a request file that is refused gives no output
pub refused_ends : {A : Type 0} (Is : A → Result Built OutputFault → Type 0) (refused : RequestError) (end : End)
    (s : Status) → is_done s ≡ true → EndsSo (IsOnRequests Is (Err refused)) end → end_status end ≡ s → ⊥
refused_ends Is refused (Ok built) s done is same = is
refused_ends Is refused (Err f) s done is same = not_by_fault f (Err f) s done refl same

-- The output of a command, where memory suffices

enough : (end : End) → end_status end ≢ status.NoMemory → ◌≢◌ {A = End} end (Err fault.Memory)
enough end other same = other (ap end_status same)

pub output_on : (w : World) (desk : Desk) (words : List (List ℕ)) (plan : Plan) (end : End) (form : Form)
    → plan_of words ≡ Ok plan → plan.form ≡ form → IsDue w desk words end → end_status end ≢ status.NoMemory
    → IsOutput form plan.origin (found_in plan.origin plan.files w.log) desk end
output_on w desk words plan end form planned is due other =
    let P : Result Plan WordsFault → Type 0 = λ p. IsEndOf w desk p end in
    let so = subst P planned (due.ended (enough end other)) in
    let Q : Form → Type 0 = λ f. IsOutput f plan.origin so.0 desk end in
    let R : Result (List Content) FileFault → Type 0 = λ r. IsOutput form plan.origin r desk end in
    subst R (found_there w plan.origin plan.files w.log so.0 so.1) (subst Q is so.2)

-- Where `compare` has a status that says this of its lists

abbrev pub Compared : (PolicyList → PolicyList → Type 0) → World → Plan → Type 0
Compared Says w plan =
    (first : PolicyList) × (second : PolicyList) × AreLists w plan first second × Says first second

abbrev pub SaysOfLists : Status → (PolicyList → PolicyList → Type 0) → Type 0
SaysOfLists s Says = (first second : PolicyList) (built : Built) → IsComparison first second built
    → (built.status ≡ s) ↔ Says first second

compared_so : (s : Status) (Says : PolicyList → PolicyList → Type 0) → SaysOfLists s Says → (w : World) (plan : Plan)
    (first second : PolicyList) (built : Built) → AreLists w plan first second → IsComparison first second built
    → (built.status ≡ s) ↔ Compared Says w plan
compared_so s Says says w plan first second built read is = (
  λ same. (first, second, read, (says first second built is).0 same),
  λ c.
      let same : ◌≡◌ {A = Result (List Content) FileFault}
      (Ok (content.Policies first ∷ content.Policies second ∷ [])) (Ok (content.Policies c.0 ∷ content.Policies c.1 ∷ []))
      = sym read ∙ c.2 in
      let one : c.0 ≡ first = cc same in
      let two : c.1 ≡ second = cc same in
      (says first second built is).1 (subst (λ (l : PolicyList). Says first l) two (subst (λ (l : PolicyList). Says l c.1) one c.3)),
)

compared_by : (s : Status) (Says : PolicyList → PolicyList → Type 0) → is_done s ≡ true → SaysOfLists s Says
    → (w : World) (desk : Desk) (plan : Plan) (end : End) (found : Result (List Content) FileFault)
    → found_in plan.origin plan.files w.log ≡ found → IsOutput Compare plan.origin found desk end
    → (end_status end ≡ s) ↔ Compared Says w plan
compared_by s Says done says w desk plan end (Err f) read is =
    (λ same. absurd (not_by_fault (fault.File f) end s done is.0 same), λ c. absurd (cc (sym read ∙ c.2)))
compared_by s Says done says w desk plan (Ok built) (Ok (content.Policies first ∷ content.Policies second ∷ [])) read is =
    compared_so s Says says w plan first second built read is.0
compared_by s Says done says w desk plan (Err f) (Ok (content.Policies first ∷ content.Policies second ∷ [])) read is =
    absurd (fault_ends (IsComparison first second) f is.0)
compared_by s Says done says w desk plan end (Ok contents) read is =
    absurd (none_ends (IsPrinted Compare plan.origin contents) (λ e never. never) end is.0)

abbrev pub CompareEndsSo : Status → (PolicyList → PolicyList → Type 0) → Type 0
CompareEndsSo s Says = (w : World) (desk : Desk) (words : List (List ℕ)) (plan : Plan) (end : End)
    → plan_of words ≡ Ok plan → plan.form ≡ Compare → IsDue w desk words end → end_status end ≢ status.NoMemory
    → (end_status end ≡ s) ↔ Compared Says w plan

compare_ends : (s : Status) (Says : PolicyList → PolicyList → Type 0) → is_done s ≡ true → SaysOfLists s Says
    → CompareEndsSo s Says
compare_ends s Says done says w desk words plan end planned is due other =
    compared_by s Says done says w desk plan end (found_in plan.origin plan.files w.log) refl
    (output_on w desk words plan end Compare planned is due other)

pub clean_by_inclusion : CompareEndsSo status.Clean Subsumes
clean_by_inclusion = compare_ends status.Clean Subsumes refl clean_where_subsumed

pub found_by_difference : CompareEndsSo status.Found (λ first second. Subsumes first second → ⊥)
found_by_difference = compare_ends status.Found (λ first second. Subsumes first second → ⊥) refl found_where_not

-- Where `judge` has a status that says this of its list and its requests

abbrev pub Judged : (PolicyList → List Described → Type 0) → World → Plan → Type 0
Judged Says w plan =
    (list : PolicyList) × (requests : List Described) × AreRequests w plan list requests × Says list requests

abbrev pub SaysOfRequests : Status → (PolicyList → List Described → Type 0) → Type 0
SaysOfRequests s Says = (list : PolicyList) (requests : List Described)
    → ((judgment list (map (λ (d : Described). d.checks) requests)).status ≡ s) ↔ Says list requests

judged_so : (s : Status) (Says : PolicyList → List Described → Type 0) → SaysOfRequests s Says → (w : World) (plan : Plan)
    (end : End) (list : PolicyList) (requests : List Described) → AreRequests w plan list requests
    → end ≡ Ok (judgment list (map (λ (d : Described). d.checks) requests))
    → (end_status end ≡ s) ↔ Judged Says w plan
judged_so s Says says w plan end list requests read is =
    let so = ap end_status is in (
      λ same. (list, requests, read, (says list requests).0 (sym so ∙ same)),
      λ c.
          let same : ◌≡◌ {A = Result (List Content) FileFault}
          (Ok (content.Policies list ∷ content.Requests read.bytes ∷ [])) (Ok (content.Policies c.0 ∷ content.Requests c.2.bytes ∷ []))
          = sym read.files ∙ c.2.files in
          let one : c.0 ≡ list = cc same in
          let also : c.2.bytes ≡ read.bytes = cc same in
          let two : c.1 ≡ requests = cc (sym c.2.described ∙ ap requests_of also ∙ read.described) in
          so ∙ (says list requests).1
          (subst (λ (l : List Described). Says list l) two (subst (λ (l : PolicyList). Says l c.1) one c.3)),
    )

judged_on : (s : Status) (Says : PolicyList → List Described → Type 0) → is_done s ≡ true → SaysOfRequests s Says
    → (w : World) (plan : Plan) (end : End) (list : PolicyList) (bytes : List ℕ)
    → found_in plan.origin plan.files w.log ≡ Ok (content.Policies list ∷ content.Requests bytes ∷ [])
    → (described : Result (List Described) RequestError) → requests_of bytes ≡ described
    → EndsSo (IsOnRequests (IsJudged list) described) end → (end_status end ≡ s) ↔ Judged Says w plan
judged_on s Says done says w plan end list bytes files (Ok requests) described is =
    judged_so s Says says w plan end list requests
    (record { bytes = bytes; files = files; described = described })
    (built_ends (judgment list (map (λ (d : Described). d.checks) requests)) end is)
judged_on s Says done says w plan end list bytes files (Err refused) described is = (
  λ same. absurd (refused_ends (IsJudged list) refused end s done is same),
  λ c.
      let same : ◌≡◌ {A = Result (List Content) FileFault}
      (Ok (content.Policies list ∷ content.Requests bytes ∷ [])) (Ok (content.Policies c.0 ∷ content.Requests c.2.bytes ∷ []))
      = sym files ∙ c.2.files in
      let also : c.2.bytes ≡ bytes = cc same in
      absurd (cc (sym c.2.described ∙ ap requests_of also ∙ described)),
)

judged_by : (s : Status) (Says : PolicyList → List Described → Type 0) → is_done s ≡ true → SaysOfRequests s Says
    → (w : World) (desk : Desk) (plan : Plan) (end : End) (found : Result (List Content) FileFault)
    → found_in plan.origin plan.files w.log ≡ found → IsOutput Judge plan.origin found desk end
    → (end_status end ≡ s) ↔ Judged Says w plan
judged_by s Says done says w desk plan end (Err f) read is =
    (λ same. absurd (not_by_fault (fault.File f) end s done is.0 same), λ c. absurd (cc (sym read ∙ c.2.files)))
judged_by s Says done says w desk plan end (Ok (content.Policies list ∷ content.Requests bytes ∷ [])) read is =
    judged_on s Says done says w plan end list bytes read (requests_of bytes) refl is.0
judged_by s Says done says w desk plan end (Ok contents) read is =
    absurd (none_ends (IsPrinted Judge plan.origin contents) (λ e never. never) end is.0)

abbrev pub JudgeEndsSo : Status → (PolicyList → List Described → Type 0) → Type 0
JudgeEndsSo s Says = (w : World) (desk : Desk) (words : List (List ℕ)) (plan : Plan) (end : End)
    → plan_of words ≡ Ok plan → plan.form ≡ Judge → IsDue w desk words end → end_status end ≢ status.NoMemory
    → (end_status end ≡ s) ↔ Judged Says w plan

judge_ends : (s : Status) (Says : PolicyList → List Described → Type 0) → is_done s ≡ true → SaysOfRequests s Says
    → JudgeEndsSo s Says
judge_ends s Says done says w desk words plan end planned is due other =
    judged_by s Says done says w desk plan end (found_in plan.origin plan.files w.log) refl
    (output_on w desk words plan end Judge planned is due other)

-- What the statuses of `judge` say

abbrev refuses : PolicyList → Described → Bool
refuses list d = not (allows_all list d.checks)

abbrev pub BlocksWhatIsRefused : Type 0
BlocksWhatIsRefused = (list : PolicyList) (checks : List Check)
    → (verdict_of list checks).blocked ≡ not (allows_all list checks)

some_blocked : BlocksWhatIsRefused → (list : PolicyList) (requests : List Described)
    → list_any (λ (v : Verdict). v.blocked) (map (verdict_of list) (map (λ (d : Described). d.checks) requests))
    ≡ list_any (refuses list) requests
some_blocked law list [] = refl
some_blocked law list (d ∷ requests) =
    ap (λ (b : Bool). b || list_any (λ (v : Verdict). v.blocked) (map (verdict_of list) (map (λ (d : Described). d.checks) requests)))
    (law list d.checks)
    ∙ ap (λ (b : Bool). refuses list d || b) (some_blocked law list requests)

not_true : (b : Bool) → not b ≡ true → b ≡ false
not_true true is = absurd (cc is)
not_true false is = refl

not_false : (b : Bool) → not b ≡ false → b ≡ true
not_false true is = refl
not_false false is = absurd (cc is)

is_false : (b : Bool) → (b ≡ true → ⊥) → b ≡ false
is_false true never = absurd (never refl)
is_false false never = refl

found_status : (b : Bool) → (cond b status.Found status.Clean ≡ status.Found) ↔ (b ≡ true)
found_status true = (λ _. refl, λ _. refl)
found_status false = (λ is. absurd (cc is), λ is. absurd (cc is))

clean_status : (b : Bool) → (cond b status.Found status.Clean ≡ status.Clean) ↔ (b ≡ false)
clean_status true = (λ is. absurd (cc is), λ is. absurd (cc is))
clean_status false = (λ _. refl, λ _. refl)

abbrev pub RefusesSome : PolicyList → List Described → Type 0
RefusesSome list requests = Any (λ (d : Described). allows_all list d.checks ≡ false) requests

abbrev pub AllowsEach : PolicyList → List Described → Type 0
AllowsEach list requests = All (λ (d : Described). allows_all list d.checks ≡ true) requests

pub found_says : BlocksWhatIsRefused → SaysOfRequests status.Found RefusesSome
found_says law list requests =
    let any = some_blocked law list requests in
    let so = found_status (list_any (λ (v : Verdict). v.blocked) (map (verdict_of list) (map (λ (d : Described). d.checks) requests))) in (
      λ is.
          let some = Any-from_list_any (refuses list) requests (sym any ∙ so.0 is) in
          (some.0, some.1, some.2, some.3, not_true (allows_all list some.1.checks) some.4),
      λ some. so.1 (any ∙ list_any-from_Any (refuses list) requests (some.0, some.1, some.2, some.3, ap not some.4)),
    )

pub clean_says : BlocksWhatIsRefused → SaysOfRequests status.Clean AllowsEach
clean_says law list requests =
    let any = some_blocked law list requests in
    let so = clean_status (list_any (λ (v : Verdict). v.blocked) (map (verdict_of list) (map (λ (d : Described). d.checks) requests))) in (
      λ is k d within.
          let none = sym any ∙ so.0 is in
          not_false (allows_all list (get_or requests k d).checks)
          (is_false (refuses list (get_or requests k d))
          (λ yes. false≢true (sym none ∙ list_any_at (refuses list) requests k d within yes))),
      λ each. so.1 (any ∙ list_any_none (refuses list) requests (λ k d within. ap not (each k d within))),
    )

pub found_by_refusal : BlocksWhatIsRefused → JudgeEndsSo status.Found RefusesSome
found_by_refusal law = judge_ends status.Found RefusesSome refl (found_says law)

pub clean_by_each : BlocksWhatIsRefused → JudgeEndsSo status.Clean AllowsEach
clean_by_each law = judge_ends status.Clean AllowsEach refl (clean_says law)
