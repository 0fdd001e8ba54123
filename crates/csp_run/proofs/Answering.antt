-- An end of a plan's stages is due.
use Rattle.std.proofs.Common.{◌≡◌, ◌≢◌, ◌⊎◌, sym, ap, subst, ℕ, List, Result, Ok, Err, inl, inr, refl}
use Rattle.std.specs.Prelude.{IsTrue}
use Rattle.csp_run.specs.Contents.{Content}
use Rattle.csp_desk.specs.Desk.{Desk, IsUntouched}
use Rattle.csp_run.specs.Due.{End, IsDue, IsEndOf, HasGrown}
use Rattle.csp_run.specs.Files.{World, AreRead, read_fault}
use Rattle.csp_run.specs.Forms.{Form}
use Rattle.csp_run.specs.Outputs.{GrewOn, IsOutput, hands_out}
use Rattle.csp_run.specs.Shown.{AreReadSo, end_of, words_end}
use Rattle.csp_run.specs.Words.{Plan, files_asked, plan_of}
use Rattle.csp_run.specs.declared.fault.Fault.{Fault}
use Rattle.csp_run.specs.declared.fault.Fault.TheVariants as fault
use Rattle.csp_run.specs.declared.fault.Role.{Role}
use Rattle.csp_run.specs.declared.fault.WordsFault.{WordsFault}
use Rattle.csp_run.specs.declared.output.Outcome.{Outcome}

plan_behind : (plan : Plan) (asked : Result Plan WordsFault) → Ok plan ≡ words_end asked → asked ≡ Ok plan
plan_behind plan (Ok other) is = let same : other ≡ plan = cc is in ap (λ (p : Plan). Ok p) same
plan_behind plan (Err f) is = absurd (cc is)

-- the files that these words ask for
pub asked_files : (words slice : List (List ℕ)) (plan : Plan) → slice ≡ words → Ok plan ≡ words_end (plan_of slice)
    → plan.files ≡ files_asked (plan_of words)
asked_files words slice plan same planned =
    sym (ap files_asked
    (subst (λ (l : List (List ℕ)). plan_of l ≡ Ok plan) same (plan_behind plan (plan_of slice) planned)))

untouched_grown : (w : World) (d : Desk) (asked : Result Plan WordsFault) → IsUntouched d → HasGrown w d asked
untouched_grown w d (Ok plan) same = inl same
untouched_grown w d (Err f) same = same

-- Files with a fault

files_ended : (w : World) (d : Desk) (plan : Plan) (f : Fault) → IsUntouched d
    → AreReadSo w plan.origin plan.files w.log (Err f) → IsEndOf w d (Ok plan) (Err f)
files_ended w d plan (fault.File f) kept are = (Err f, are, (refl, kept))
files_ended w d plan f kept are = absurd are

pub files_due : (w : World) (d : Desk) (words slice : List (List ℕ)) (plan : Plan) (f : Fault) → slice ≡ words
    → Ok plan ≡ words_end (plan_of slice) → IsUntouched d
    → (f ≢ fault.Memory → AreReadSo w plan.origin plan.files w.log (Err f))
    → (((role : Role) → f ≢ read_fault role) → (n : List ℕ) → w.faults_now n ≡ w.faults_before n)
    → d.faults_now ≡ d.faults_before → IsDue w d words (Err f)
files_due w d words slice plan f same planned kept are calm none =
    let P : Result Plan WordsFault → Type 0 = λ p. IsEndOf w d p (Err f) in
    let asked : plan_of words ≡ Ok plan =
    subst (λ (l : List (List ℕ)). plan_of l ≡ Ok plan) same (plan_behind plan (plan_of slice) planned) in
    record {
      ended = λ real. subst P (sym asked) (files_ended w d plan f kept (are (λ same. real (ap (λ (h : Fault). Err h) same))));
      grown = untouched_grown w d (plan_of words) kept;
      no_fault = λ other. calm (λ role same. other role (ap (λ (h : Fault). Err h) same));
      none_refused = λ other. none;
    }

-- Outputs

grown_on : (w : World) (d : Desk) (plan : Plan) (contents : List Content)
    → AreRead w plan.origin plan.files w.log (Ok contents)
    → IsUntouched d ⊎ (IsTrue (hands_out plan.form) × GrewOn contents d) → HasGrown w d (Ok plan)
grown_on w d plan contents are grown = elim grown [
  | inl same ↦ inl same
  | inr more ↦ inr (more.0, contents, are, more.1)
]

pub output_due : (w : World) (d : Desk) (words slice : List (List ℕ)) (plan : Plan) (form : Form) (contents : List Content)
    (outcome : Result Outcome Fault) → slice ≡ words → Ok plan ≡ words_end (plan_of slice) → form ≡ plan.form
    → AreRead w plan.origin plan.files w.log (Ok contents)
    → (◌≢◌ {A = Result Outcome Fault} outcome (Err fault.Memory)
    → IsOutput form plan.origin (Ok contents) d (end_of d.kinds d.held_now outcome))
    → IsUntouched d ⊎ (IsTrue (hands_out form) × GrewOn contents d)
    → ((n : List ℕ) → w.faults_now n ≡ w.faults_before n)
    → (((n : ℕ) → ◌≢◌ {A = Result Outcome Fault} outcome (Err (fault.Refused n))) → d.faults_now ≡ d.faults_before)
    → IsDue w d words (end_of d.kinds d.held_now outcome)
output_due w d words slice plan form contents outcome same planned form_is are output grown calm none =
    let end : End = end_of d.kinds d.held_now outcome in
    let P : Result Plan WordsFault → Type 0 = λ p. IsEndOf w d p end in
    let Q : Result Plan WordsFault → Type 0 = λ p. HasGrown w d p in
    let F : Form → Type 0 = λ f. IsOutput f plan.origin (Ok contents) d end in
    let G : Form → Type 0 = λ f. IsUntouched d ⊎ (IsTrue (hands_out f) × GrewOn contents d) in
    let asked : plan_of words ≡ Ok plan =
    subst (λ (l : List (List ℕ)). plan_of l ≡ Ok plan) same (plan_behind plan (plan_of slice) planned) in
    record {
      ended = λ real. subst P (sym asked)
          (Ok contents, are, subst F form_is (output (λ memory. real (ap (end_of d.kinds d.held_now) memory))));
      grown = subst Q (sym asked) (grown_on w d plan contents are (subst G form_is grown));
      no_fault = λ other. calm;
      none_refused = λ other. none (λ n same. other n (ap (end_of d.kinds d.held_now) same));
    }
