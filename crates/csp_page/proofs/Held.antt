-- What is found of the files of a page's call is what they hold.
use Rattle.std.proofs.Common.{◌≡◌, ◌⊎◌, ◌<◌, ◌≤◌, ℕ, suc, Bool, true, false, List, [], ◌∷◌, ◌++◌, length, All}
use Rattle.std.proofs.Common.{Option, Some, None, Result, Ok, Err, inl, inr, refl, sym, ap, subst, ◌∙◌, arith}
use Rattle.std.proofs.lemmas.Bool.Decides.{nat_tests}
use Rattle.std.specs.Prelude.{nat_lt}
use Rattle.csp_io.specs.Starts.{MissingAreUnread}
use Rattle.csp_io.specs.declared.log.Start.{Start}
use Rattle.csp_io.specs.Told.{Rose}
use Rattle.csp_model.specs.declared.url.Origin.{Origin}
use Rattle.csp_output.specs.Statuses.{exit_code}
use Rattle.csp_page.specs.Laws.{IsReadable, told_content, told_contents}
use Rattle.csp_page.specs.Page.{IsPageAnswer}
use Rattle.csp_desk.specs.Desk.{Desk}
use Rattle.csp_run.specs.Due.{End, IsEndOf, end_status, end_text}
use Rattle.csp_run.specs.Contents.{Content}
use Rattle.csp_run.specs.Files.{AreRead, IsRead, World, file_fault, file_limit, found_in, read_as, read_fault, then_found}
use Rattle.csp_run.specs.Forms.{Form}
use Rattle.csp_run.specs.Outputs.{IsOutput}
use Rattle.csp_run.specs.Texts.{fault_text}
use Rattle.csp_run.specs.Words.{File, Plan, plan_of}
use Rattle.csp_run.specs.declared.fault.Cause.TheVariants as cause
use Rattle.csp_run.specs.declared.fault.Fault.TheVariants as fault
use Rattle.csp_run.specs.declared.fault.FileFault.{FileFault}
use Rattle.csp_run.specs.declared.fault.Limit.TheVariants as limit
use Rattle.csp_run.specs.declared.fault.Role.{Role}
use Rattle.csp_run.specs.declared.fault.WordsFault.{WordsFault}
use Rattle.csp_run.proofs.InLog.{found_there}
use Rattle.csp_run.proofs.Reading.{found_part, found_past, found_whole}

-- the world of a call over files of these bytes
record IsOver (w : World) (contents : List ℕ → Option (List ℕ)) : Type 0 where
  files : (n : List ℕ) → w.contents n ≡ contents n
  failed : (n : List ℕ) → Rose (w.faults_before n) (w.faults_now n) → contents n ≡ None

either : (m n : ℕ) → (n ≤ m) ⊎ (m < n)
either m n = elim (nat_lt m n) as (λ b. nat_lt m n ≡ b → (n ≤ m) ⊎ (m < n)) [
  | true ↦ λ is. inr (grind (arith, nat_tests, is))
  | false ↦ λ is. inl (grind (arith, nat_tests, is))
] refl

past_limit : (o : Origin) (file : Role) (bytes : List ℕ) → file_limit file < length bytes
    → Err (file_fault file (cause.TooLarge limit.Bytes)) ≡ read_as o file bytes
past_limit o file bytes past = grind (arith, nat_tests)

-- One file

there_within : (w : World) (contents : List ℕ → Option (List ℕ)) (o : Origin) (file : File) (start : Start)
    (found : Result Content FileFault) (bytes : List ℕ) → IsOver w contents → IsRead w o file start found
    → contents file.name ≡ Some bytes → length start.bytes ≤ file_limit file.role
    → (e : Bool) → start.ended ≡ e → found ≡ read_as o file.role bytes
there_within w contents o file start found bytes over read is within false cut =
    absurd (cc (sym is ∙ over.failed file.name (read.cause cut within)))
there_within w contents o file start found bytes over read is within true ended =
    read.found_is ∙ sym (found_whole o file.role start ended)
    ∙ ap (read_as o file.role) ((read.told bytes (over.files file.name ∙ is)).all ended)

-- one that is there
there : (w : World) (contents : List ℕ → Option (List ℕ)) (o : Origin) (file : File) (start : Start)
    (found : Result Content FileFault) (bytes : List ℕ) → IsOver w contents → IsRead w o file start found
    → contents file.name ≡ Some bytes → found ≡ read_as o file.role bytes
there w contents o file start found bytes over read is = elim (either (file_limit file.role) (length start.bytes)) [
  | inl within ↦ there_within w contents o file start found bytes over read is within start.ended refl
  | inr past ↦
      read.found_is ∙ sym (found_past o file.role start past)
      ∙ past_limit o file.role bytes ((read.told bytes (over.files file.name ∙ is)).past past)
]

-- and one that isn't
not_there : (w : World) (o : Origin) (file : File) (start : Start) (found : Result Content FileFault)
    → IsRead w o file start found → start.bytes ≡ [] → start.ended ≡ false → found ≡ Err (file_fault file.role cause.Read)
not_there w o file start found read none cut =
    read.found_is ∙ sym (found_part o file.role start (omega (arith, ap length none)) cut)

one_held : (w : World) (contents : List ℕ → Option (List ℕ)) (o : Origin) (file : File) (start : Start)
    (found : Result Content FileFault) → IsOver w contents → IsRead w o file start found
    → (contents start.name ≡ None → (start.bytes ≡ []) × (start.ended ≡ false))
    → (held : Option (List ℕ)) → contents file.name ≡ held → found ≡ told_content o file.role held
one_held w contents o file start found over read unread (Some bytes) is =
    there w contents o file start found bytes over read is
one_held w contents o file start found over read unread None is =
    let nothing = unread (ap contents read.named ∙ is) in
    not_there w o file start found read nothing.0 nothing.1

-- All files

held : (w : World) (contents : List ℕ → Option (List ℕ)) (o : Origin) (files : List File) (starts : List Start)
    (found : Result (List Content) FileFault) → IsOver w contents → MissingAreUnread contents starts
    → AreRead w o files starts found → found ≡ told_contents contents o files
held w contents o [] [] (Ok contained) over unread are = ap (λ (l : List Content). Ok l) are
held w contents o [] [] (Err f) over unread are = absurd are
held w contents o [] (s ∷ starts) found over unread are = absurd are
held w contents o (file ∷ files) [] found over unread are = absurd are
held w contents o (file ∷ files) (s ∷ starts) (Ok []) over unread are = absurd are
held w contents o (file ∷ files) (s ∷ starts) (Ok (c ∷ cs)) over unread are =
    let one = one_held w contents o file s (Ok c) over are.0 (unread 0 s (omega arith)) (contents file.name) refl in
    let more : MissingAreUnread contents starts = λ k d below. unread (suc k) d (omega (arith, below)) in
    ap (λ (r : Result Content FileFault). then_found r (Ok cs)) one
    ∙ ap (then_found (told_content o file.role (contents file.name))) (held w contents o files starts (Ok cs) over more are.1)
held w contents o (file ∷ files) (s ∷ starts) (Err f) over unread are = elim are [
  | inl here ↦
      let one = one_held w contents o file s (Err f) over here.0 (unread 0 s (omega arith)) (contents file.name) refl in
      ap (λ (r : Result Content FileFault). then_found r (told_contents contents o files)) one
  | inr later ↦
      let one = one_held w contents o file s (Ok later.0) over later.1 (unread 0 s (omega arith)) (contents file.name) refl in
      let more : MissingAreUnread contents starts = λ k d below. unread (suc k) d (omega (arith, below)) in
      ap (λ (r : Result Content FileFault). then_found r (Err f)) one
      ∙ ap (then_found (told_content o file.role (contents file.name))) (held w contents o files starts (Err f) over more later.2)
]

first_missing : (contents : List ℕ → Option (List ℕ)) (o : Origin) (front : List File) (file : File) (rest : List File)
    → All (λ (f : File). IsReadable contents o f) front → contents file.name ≡ None
    → told_contents contents o (front ++ file ∷ rest) ≡ Err (file_fault file.role cause.Read)
first_missing contents o [] file rest readable none =
    ap (λ (held : Option (List ℕ)). then_found (told_content o file.role held) (told_contents contents o rest)) none
first_missing contents o (f ∷ front) file rest readable none =
    let first = readable 0 f (omega arith) in
    let more : All (λ (g : File). IsReadable contents o g) front = λ k d below. readable (suc k) d (omega (arith, below)) in
    ap (λ (r : Result Content FileFault). then_found r (told_contents contents o (front ++ file ∷ rest))) first.read
    ∙ ap (then_found (Ok first.content)) (first_missing contents o front file rest more none)

-- Answers

-- what was found, and the end that it has
record IsMade (w : World) (desk : Desk) (plan : Plan) (contents : List ℕ → Option (List ℕ)) (end : End) : Type 0 where
  found : found_in plan.origin plan.files w.log ≡ told_contents contents plan.origin plan.files
  output : IsOutput plan.form plan.origin (told_contents contents plan.origin plan.files) desk end

made : (words : List (List ℕ)) (contents : List ℕ → Option (List ℕ)) (code : ℕ) (text : List ℕ) (plan : Plan)
    (answer : IsPageAnswer words contents code text) → plan_of words ≡ Ok plan
    → IsMade answer.world answer.desk plan contents answer.end
made words contents code text plan answer planned =
    let P : Result Plan WordsFault → Type 0 = λ p. IsEndOf answer.world answer.desk p answer.end in
    let so = subst P planned answer.ended in
    let over : IsOver answer.world contents = record { files = answer.files; failed = answer.failed } in
    let is : so.0 ≡ told_contents contents plan.origin plan.files =
    held answer.world contents plan.origin plan.files answer.world.log so.0 over answer.missing so.1 in
    let Q : Result (List Content) FileFault → Type 0 = λ r. IsOutput plan.form plan.origin r answer.desk answer.end in
    record {
      found = sym (found_there answer.world plan.origin plan.files answer.world.log so.0 so.1) ∙ is;
      output = subst Q is so.2;
    }

pub found_held : (words : List (List ℕ)) (contents : List ℕ → Option (List ℕ)) (code : ℕ) (text : List ℕ) (plan : Plan)
    (answer : IsPageAnswer words contents code text) → plan_of words ≡ Ok plan
    → found_in plan.origin plan.files answer.world.log ≡ told_contents contents plan.origin plan.files
found_held words contents code text plan answer planned = (made words contents code text plan answer planned).found

fault_ends : (form : Form) (o : Origin) (f : FileFault) (desk : Desk) (end : End) → IsOutput form o (Err f) desk end
    → end ≡ Err (fault.File f)
fault_ends form o f desk end is = is.0

pub missing_is_read_fault : (words : List (List ℕ)) (contents : List ℕ → Option (List ℕ)) (code : ℕ) (text : List ℕ)
    (plan : Plan) (front : List File) (file : File) (rest : List File) → plan_of words ≡ Ok plan
    → plan.files ≡ front ++ file ∷ rest → All (λ (f : File). IsReadable contents plan.origin f) front
    → contents file.name ≡ None → IsPageAnswer words contents code text
    → (code ≡ 8) × (text ≡ fault_text (read_fault file.role))
missing_is_read_fault words contents code text plan front file rest planned files readable none answer =
    let told : told_contents contents plan.origin plan.files ≡ Err (file_fault file.role cause.Read) =
    ap (told_contents contents plan.origin) files ∙ first_missing contents plan.origin front file rest readable none in
    let Q : Result (List Content) FileFault → Type 0 = λ r. IsOutput plan.form plan.origin r answer.desk answer.end in
    let end_is : answer.end ≡ Err (read_fault file.role) =
    fault_ends plan.form plan.origin (file_fault file.role cause.Read) answer.desk answer.end
    (subst Q told (made words contents code text plan answer planned).output) in (
      answer.code_is ∙ ap (λ (e : End). exit_code (end_status e)) end_is,
      answer.text_is ∙ ap end_text end_is,
    )
