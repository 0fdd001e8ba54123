-- What is due with a code that no want of memory gives is an answer.
use Rattle.std.proofs.Common.{◌≡◌, ◌≢◌, ◌<◌, ◌≤◌, ◌+◌, ◌⊎◌, ℕ, zero, suc, Bool, true, false, List, [], ◌∷◌, ◌++◌, map}
use Rattle.std.proofs.Common.{length, take, drop, get_or, slice_index_or, Option, Some, None, Err, inl, inr, refl, sym, ap, subst, ◌∙◌, arith}
use Rattle.std.proofs.lemmas.Bool.{false≢true}
use Rattle.std.proofs.lemmas.Bool.Decides.{nat_tests}
use Rattle.std.proofs.lemmas.List.Elements.{All-drop}
use Rattle.std.proofs.lemmas.List.{get_or_default, get_or-map, length-map, length-take-le, take_all, take-take}
use Rattle.std.specs.Prelude.{Contains, IsUtf8, nat_lt}
use Rattle.csp_desk.specs.declared.reporter.Kind.TheVariants.{Lines, Tally}
use Rattle.csp_io.specs.Starts.{MissingAreUnread}
use Rattle.csp_io.specs.declared.log.Start.{Start}
use Rattle.csp_io.specs.Told.{GrewBy, GrewByPrefix, Rose}
use Rattle.csp_output.specs.Statuses.{exit_code}
use Rattle.csp_output.specs.declared.status.Status.{Status}
use Rattle.csp_output.specs.declared.status.Status.TheVariants.{WriteFault, ReporterFault}
use Rattle.csp_page.specs.Files.{faults_with}
use Rattle.csp_page.specs.Page.{HasBad, IsCutAnswer, IsGiven, IsPageAnswer}
use Rattle.csp_run.specs.declared.fault.Fault.TheVariants as fault
use Rattle.csp_desk.specs.Desk.{Desk}
use Rattle.csp_run.specs.Due.{End, IsDue, IsEndOf, end_status, end_text}
use Rattle.csp_run.specs.Files.{World}
use Rattle.csp_run.specs.Texts.{fault_pieces}
use Rattle.csp_run.specs.Words.{plan_of}

-- Files

no_rise : Rose 0 0 → ⊥
no_rise rose = omega (arith, rose)

-- a count that rose is that of a file that isn't there
pub missing : (before now : Option (List ℕ)) (f g : ℕ) → now ≡ before
    → Rose (faults_with before f) (faults_with now g) → before ≡ None
missing None now f g same rose = refl
missing (Some bytes) now f g same rose =
    let none : faults_with now g ≡ 0 = ap (λ (o : Option (List ℕ)). faults_with o g) same in
    absurd (no_rise (subst (λ (n : ℕ). Rose 0 n) none rose))

-- what was read of names that aren't there stays so at files of the same bytes, and for the later starts
pub still_missing : (now before : List ℕ → Option (List ℕ)) (n : ℕ) (log : List Start)
    → ((name : List ℕ) → now name ≡ before name) → MissingAreUnread now log
    → MissingAreUnread before (drop n log)
still_missing now before n log same all =
    All-drop (λ (s : Start). before s.name ≡ None → (s.bytes ≡ []) × (s.ended ≡ false)) n log
    (λ k d below none. all k d below (same (slice_index_or log k d).name ∙ none))

-- Ends

-- what is known of the files and the desk of a page's call
pub record IsOfPage (w : World) (desk : Desk) (contents : List ℕ → Option (List ℕ)) : Type 0 where
  pub files : (n : List ℕ) → w.contents n ≡ contents n
  pub failed : (n : List ℕ) → Rose (w.faults_before n) (w.faults_now n) → contents n ≡ None
  pub missing : MissingAreUnread contents w.log
  pub kinds : desk.kinds ≡ Lines ∷ Tally ∷ []
  pub may_refuse : desk.may_refuse ≡ false ∷ false ∷ []
  pub held : desk.held_before ≡ [] ∷ [] ∷ []

due_answer : (w : World) (desk : Desk) (words : List (List ℕ)) (end : End) (code : ℕ)
    (contents : List ℕ → Option (List ℕ)) (copy : List ℕ) → IsOfPage w desk contents → IsDue w desk words end
    → end ≢ Err fault.Memory → code ≡ exit_code (end_status end) → copy ≡ end_text end
    → IsPageAnswer words contents code copy
due_answer w desk words end code contents copy page due real code_is text_is = record {
  world = w;
  desk = desk;
  end = end;
  files = page.files;
  failed = page.failed;
  missing = page.missing;
  kinds = page.kinds;
  may_refuse = page.may_refuse;
  held = page.held;
  ended = due.ended real;
  code_is = code_is;
  text_is = text_is;
}

not_memory : (end : End) (code : ℕ) → code ≡ exit_code (end_status end) → code ≢ 10
    → ◌≢◌ {A = End} end (Err fault.Memory)
not_memory end code is other same = other (is ∙ ap (λ (e : End). exit_code (end_status e)) same)

-- an end with another code
pub page_answer : (w : World) (desk : Desk) (words : List (List ℕ)) (end : End) (status : Status) (code : ℕ)
    (contents : List ℕ → Option (List ℕ)) (copy : List ℕ) → IsOfPage w desk contents → IsDue w desk words end
    → status ≡ end_status end → code ≡ exit_code status → copy ≡ end_text end → code ≢ 10
    → IsPageAnswer words contents code copy
page_answer w desk words end status code contents copy page due status_is is copied other =
    let code_is : code ≡ exit_code (end_status end) = is ∙ ap exit_code status_is in
    due_answer w desk words end code contents copy page due (not_memory end code code_is other) code_is copied

-- a front of the text of an end is longer than a room
due_cut : (w : World) (desk : Desk) (words : List (List ℕ)) (end : End) (contents : List ℕ → Option (List ℕ))
    (copy : List ℕ) (n room : ℕ) → IsOfPage w desk contents → IsDue w desk words end
    → end ≢ Err fault.Memory → n ≤ length (end_text end) → copy ≡ take n (end_text end) → room < length copy
    → IsCutAnswer words contents room (take room copy)
due_cut w desk words end contents copy n room page due real within copied longer =
    let size : length copy ≡ n = ap length copied ∙ length-take-le n (end_text end) within in
    let below : room ≤ n = omega (arith, size, longer) in
    record {
      code = exit_code (end_status end);
      text = end_text end;
      answer = due_answer w desk words end (exit_code (end_status end)) contents (end_text end) page due real refl refl;
      longer = omega (arith, size, longer, within);
      front_is = ap (take room) copied ∙ take-take room n (end_text end) below;
    }

memory_line : length (end_text (Err fault.Memory)) ≡ 10
unfolding fault_pieces
memory_line = refl

-- a text that is longer than the line `no memory`
longer_than_memory : (end : End) → 10 < length (end_text end) → ◌≢◌ {A = End} end (Err fault.Memory)
longer_than_memory end longer same =
    let size : length (end_text end) ≡ 10 = ap (λ (e : End). length (end_text e)) same ∙ memory_line in
    omega (arith, size, longer)

-- Statuses

-- what a run of this status wrote: all of a text, or where a write failed its front
abbrev pub Wrote : World → Desk → List (List ℕ) → Status → List ℕ → List ℕ → Type 0
Wrote w desk words status before now =
    (end : End) × IsDue w desk words end × (status ≡ end_status end) × GrewBy before now (end_text end)

abbrev pub WroteFront : World → Desk → List (List ℕ) → List ℕ → List ℕ → Type 0
WroteFront w desk words before now =
    (end : End) × IsDue w desk words end × GrewByPrefix before now (end_text end)

all_or_front : (A B : Type 0) (status : Status) → (status ≢ WriteFault → A) → (status ≡ WriteFault → B)
    → A ⊎ ((status ≡ WriteFault) × B)
all_or_front A B WriteFault all front = inr (refl, front refl)
all_or_front A B status all front = inl (all (λ same. cc same))

write_fault_code : (status : Status) → exit_code status ≡ 9 → status ≡ WriteFault
write_fault_code WriteFault is = refl
write_fault_code status is = absurd (omega (arith, is))

refused_code : (status : Status) → exit_code status ≡ 11 → status ≡ ReporterFault
refused_code ReporterFault is = refl
refused_code status is = absurd (omega (arith, is))

no_code_of_words : (status : Status) → exit_code status ≢ 14
no_code_of_words WriteFault is = omega (arith, is)
no_code_of_words status is = omega (arith, is)

-- The sink

-- what it holds behind its room
held_text : (before now text : List ℕ) (room held : ℕ) (bytes copy : List ℕ) → before ≡ room ∷ []
    → now ≡ held ∷ bytes → copy ≡ bytes → GrewBy before now text → copy ≡ text
held_text before now text room held bytes copy begun is copied grew =
    let e : held ∷ bytes ≡ room ∷ text = sym is ∙ grew ∙ ap (λ l. l ++ text) begun in
    let same : bytes ≡ text = cc e in
    copied ∙ same

same_room : (before now text : List ℕ) (room held : ℕ) (bytes : List ℕ) → before ≡ room ∷ []
    → now ≡ held ∷ bytes → GrewBy before now text → held ≡ room
same_room before now text room held bytes begun is grew =
    let e : held ∷ bytes ≡ room ∷ text = sym is ∙ grew ∙ ap (λ l. l ++ text) begun in cc e

-- what is known of a sink that began with this room and no fault
pub record IsHeld (before now : List ℕ) (faults_before faults_now room held : ℕ) (bytes copy : List ℕ)
    : Type 0 where
  pub begun : before ≡ room ∷ []
  pub calm : faults_before ≡ 0
  pub now_is : now ≡ held ∷ bytes
  pub full : Rose 0 faults_now → held ≤ length bytes
  pub copied : copy ≡ bytes

-- where a write failed the room is full
filled : (before now text : List ℕ) (faults_before faults_now room held : ℕ) (bytes copy : List ℕ)
    → IsHeld before now faults_before faults_now room held bytes copy → GrewByPrefix before now text
    → Rose faults_before faults_now → room ≤ length copy
filled before now text faults_before faults_now room held bytes copy sink grew rose =
    let same : held ≡ room = same_room before now (take grew.0 text) room held bytes sink.begun sink.now_is grew.2 in
    let most : held ≤ length bytes = sink.full (subst (λ (n : ℕ). Rose n faults_now) sink.calm rose) in
    let size : length copy ≡ length bytes = ap length sink.copied in
    omega (arith, same, most, size)

-- What is given

cut_all : (w : World) (desk : Desk) (words : List (List ℕ)) (status : Status) (code : ℕ)
    (contents : List ℕ → Option (List ℕ)) (before now : List ℕ) (faults_before faults_now room held : ℕ)
    (bytes copy : List ℕ) (least : ℕ) → IsOfPage w desk contents → code ≡ exit_code status
    → Wrote w desk words status before now
    → IsHeld before now faults_before faults_now room held bytes copy → code ≢ 10 → least < length copy
    → IsCutAnswer words contents least (take least copy)
cut_all w desk words status code contents before now faults_before faults_now room held bytes copy least page is (end, due, status_is, grew) sink other longer =
    let copied : copy ≡ end_text end =
    held_text before now (end_text end) room held bytes copy sink.begun sink.now_is sink.copied grew in
    let whole : take (length (end_text end)) (end_text end) ≡ end_text end =
    take_all (length (end_text end)) (end_text end) (omega arith) in
    due_cut w desk words end contents copy (length (end_text end)) least page due
    (not_memory end code (is ∙ ap exit_code status_is) other) (omega arith) (copied ∙ sym whole) longer

cut_front : (w : World) (desk : Desk) (words : List (List ℕ)) (contents : List ℕ → Option (List ℕ))
    (before now : List ℕ) (faults_before faults_now room held : ℕ) (bytes copy : List ℕ) (least : ℕ)
    → IsOfPage w desk contents → WroteFront w desk words before now
    → IsHeld before now faults_before faults_now room held bytes copy → Rose faults_before faults_now → 10 < room
    → least < length copy → IsCutAnswer words contents least (take least copy)
cut_front w desk words contents before now faults_before faults_now room held bytes copy least page (end, due, grew) sink rose wide longer =
    let front : copy ≡ take grew.0 (end_text end) =
    held_text before now (take grew.0 (end_text end)) room held bytes copy sink.begun sink.now_is sink.copied grew.2 in
    let most : room ≤ length copy =
    filled before now (end_text end) faults_before faults_now room held bytes copy sink grew rose in
    let size : length copy ≡ grew.0 = ap length front ∙ length-take-le grew.0 (end_text end) grew.1 in
    let long : 10 < length (end_text end) = omega (arith, most, size, wide, grew.1) in
    due_cut w desk words end contents copy grew.0 least page due (longer_than_memory end long) grew.1 front longer

none_of_two : Contains (false ∷ false ∷ []) true → ⊥
none_of_two (zero, below, is) = false≢true is
none_of_two (suc zero, below, is) = false≢true is
none_of_two (suc (suc k), below, is) = omega (arith, below)

none_may : (may : List Bool) → may ≡ false ∷ false ∷ [] → Contains may true → ⊥
none_may may is some = none_of_two (subst (λ (l : List Bool). Contains l true) is some)

pub given : (w : World) (desk : Desk) (words : List (List ℕ)) (status : Status) (code : ℕ)
    (contents : List ℕ → Option (List ℕ)) (before now : List ℕ) (faults_before faults_now room held : ℕ)
    (bytes copy : List ℕ) → code ≡ exit_code status
    → (status ≢ WriteFault → Wrote w desk words status before now)
    → (status ≡ WriteFault → WroteFront w desk words before now)
    → (status ≡ WriteFault → Rose faults_before faults_now)
    → (status ≡ ReporterFault → Contains desk.may_refuse true)
    → IsHeld before now faults_before faults_now room held bytes copy → IsOfPage w desk contents
    → IsGiven words contents room code copy
given w desk words status code contents before now faults_before faults_now room held bytes copy is all front rose refused sink page = record {
  answer = λ write memory.
      let whole = all (λ same. write (is ∙ ap exit_code same)) in
      page_answer w desk words whole.0 status code contents copy page whole.1 whole.2 is
      (held_text before now (end_text whole.0) room held bytes copy sink.begun sink.now_is sink.copied whole.3) memory;
  cut = λ wide memory least within longer.
      elim (all_or_front (Wrote w desk words status before now) (WroteFront w desk words before now) status all front) [
        | inl whole ↦
            cut_all w desk words status code contents before now faults_before faults_now room held bytes copy least
            page is whole sink memory longer
        | inr part ↦
            cut_front w desk words contents before now faults_before faults_now room held bytes copy least page
            part.1 sink (rose part.0) wide longer
      ];
  full = λ write.
      let same : status ≡ WriteFault = write_fault_code status (sym is ∙ write) in
      let part = front same in
      filled before now (end_text part.0) faults_before faults_now room held bytes copy sink part.2 (rose same);
  never_refused = λ refusal.
      none_may desk.may_refuse page.may_refuse (refused (refused_code status (sym is ∙ refusal)));
  never_bad = λ bad. no_code_of_words status (sym is ∙ bad);
}

-- the same answer over files of the same bytes
over_same : (words words' : List (List ℕ)) (a b : List ℕ → Option (List ℕ)) (code : ℕ) (text : List ℕ)
    → words' ≡ words → ((n : List ℕ) → a n ≡ b n) → IsPageAnswer words' a code text → IsPageAnswer words b code text
over_same words words' a b code text same files got =
    let P : List (List ℕ) → Type 0 = λ it. IsEndOf got.world got.desk (plan_of it) got.end in
    record {
      world = got.world;
      desk = got.desk;
      end = got.end;
      files = λ n. got.files n ∙ files n;
      failed = λ n rose. sym (files n) ∙ got.failed n rose;
      missing = still_missing a b 0 got.world.log files got.missing;
      kinds = got.kinds;
      may_refuse = got.may_refuse;
      held = got.held;
      ended = subst P same got.ended;
      code_is = got.code_is;
      text_is = got.text_is;
    }

pub given_over_same : (words words' : List (List ℕ)) (a b : List ℕ → Option (List ℕ)) (room code : ℕ) (copy : List ℕ)
    → words' ≡ words → ((n : List ℕ) → a n ≡ b n) → IsGiven words' a room code copy → IsGiven words b room code copy
given_over_same words words' a b room code copy same files got = record {
  answer = λ write memory. over_same words words' a b code copy same files (got.answer write memory);
  cut = λ wide memory least within longer.
      let cut = got.cut wide memory least within longer in
      record {
        code = cut.code;
        text = cut.text;
        answer = over_same words words' a b cut.code cut.text same files cut.answer;
        longer = cut.longer;
        front_is = cut.front_is;
      };
  full = got.full;
  never_refused = got.never_refused;
  never_bad = got.never_bad;
}

-- what two boxes are that were pushed
pub two : {B K : Type 0} (f : B → K) (none one both : List B) (a b : B) (x y : K) → none ≡ [] → one ≡ none ++ a ∷ []
    → both ≡ one ++ b ∷ [] → f a ≡ x → f b ≡ y → map f both ≡ x ∷ y ∷ []
two f none one both a b x y empty first second is_a is_b =
    let pushed : both ≡ a ∷ b ∷ [] = second ∙ ap (λ l. l ++ b ∷ []) (first ∙ ap (λ l. l ++ a ∷ []) empty) in
    ap (map f) pushed ∙ ap (λ k. k ∷ f b ∷ []) is_a ∙ ap (λ k. x ∷ k ∷ []) is_b

-- Texts that aren't UTF-8

-- the text at a place isn't
pub some_bad : {W : Type 0} (f : W → List ℕ) (items : List W) (place : ℕ) (d : W) → place < length items
    → ¬ (IsUtf8 (f (get_or items place d))) → HasBad (map f items)
some_bad f items place d within bad = (
  place,
  f (get_or items place d),
  rw (length-map items f) within,
  get_or-map f items place d (f (get_or items place d)) within,
  bad,
)

-- the texts of the first ones are
abbrev pub GoodSoFar : {W : Type 0} → (W → List ℕ) → List W → ℕ → Type 0
GoodSoFar {W} f items count = (k : ℕ) (d : W) → k < count → IsUtf8 (f (get_or items k d))

same_or_below : (k n : ℕ) → k < n + 1 → (k < n) ⊎ (k ≡ n)
same_or_below k n below = elim (nat_lt k n) as (λ b. nat_lt k n ≡ b → (k < n) ⊎ (k ≡ n)) [
  | true ↦ λ is. inl (grind (arith, nat_tests, is))
  | false ↦ λ is. inr (grind (arith, nat_tests, is, below))
] refl

-- and that of the next one
pub good_more : {W : Type 0} (f : W → List ℕ) (items : List W) (count : ℕ) (d : W) → count < length items
    → GoodSoFar f items count → IsUtf8 (f (get_or items count d)) → GoodSoFar f items (count + 1)
good_more f items count d within good next = λ k e below. elim (same_or_below k count below) [
  | inl before ↦ good k e before
  | inr same ↦
      subst (λ (n : ℕ). IsUtf8 (f (get_or items n e))) (sym same)
      (subst (λ w. IsUtf8 (f w)) (get_or_default items count d e within) next)
]

-- so none isn't
pub none_bad : {W : Type 0} (f : W → List ℕ) (items : List W) (count : ℕ) → length items ≤ count
    → GoodSoFar f items count → HasBad (map f items) → ⊥
none_bad f [] count all good (k, text, below, is, bad) = omega (arith, below)
none_bad f (w ∷ ws) count all good (k, text, below, is, bad) =
    let within : k < length (w ∷ ws) = subst (λ (n : ℕ). k < n) (length-map (w ∷ ws) f) below in
    bad (subst IsUtf8 (sym (get_or-map f (w ∷ ws) k w text within) ∙ is) (good k w (omega (arith, within, all))))
