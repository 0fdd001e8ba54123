-- What a call does to the desk that is lent to it.
use Rattle.std.specs.Prelude.{◌≡◌, ℕ, Bool, List, [], map, slice_index}
use Rattle.csp_io.specs.Told.{Rose}
use Rattle.csp_desk.specs.Growth.{GrewInPart, MayRefuse, NoneFell, StopsAt}
use Rattle.csp_desk.specs.declared.desk.DeskError.{DeskError}
use Rattle.csp_desk.specs.declared.desk.DeskError.TheVariants.{Refused, Memory}
use Rattle.csp_desk.specs.declared.reporter.Kind.{Kind}
use Rattle.csp_model.specs.declared.verdict.Violation.{Violation}

-- What a call knows of the reporters of a desk, in order: their kinds, which of them may refuse a violation, what
-- each held before the call and holds now, and their counts of faults. The kinds, and who may refuse, are those
-- before the call.
pub record Desk : Type 0 where
  pub kinds : List Kind
  pub kinds_now : List Kind
  pub may_refuse : List Bool
  pub may_refuse_now : List Bool
  pub held_before : List (List Violation)
  pub held_now : List (List Violation)
  pub faults_before : List ℕ
  pub faults_now : List ℕ

abbrev pub desk : {R : Type 0} → (R → Kind) → (R → Bool) → (R → List Violation) → (R → ℕ) → List R → List R
    → Desk
desk kind may_refuse held faults old new = record {
  kinds = map kind old;
  kinds_now = map kind new;
  may_refuse = map may_refuse old;
  may_refuse_now = map may_refuse new;
  held_before = map held old;
  held_now = map held new;
  faults_before = map faults old;
  faults_now = map faults new;
}

-- the same, with no reporter that refused anything
abbrev pub without_refusals : Desk → Desk
without_refusals d = record d { faults_before = []; faults_now = [] }

-- no reporter's count rose
abbrev pub NoneRefused : Desk → Type 0
NoneRefused d = (place : ℕ) → Rose (slice_index d.faults_before place) (slice_index d.faults_now place) → ⊥

-- each reporter holds what it held
abbrev pub IsUntouched : Desk → Type 0
IsUntouched d = d.held_now ≡ d.held_before

-- the reporters are of the same kinds, of which the same may refuse, and no count fell
pub record IsKept (d : Desk) : Type 0 where
  pub kinds : d.kinds_now ≡ d.kinds
  pub may_refuse : d.may_refuse_now ≡ d.may_refuse
  pub later : NoneFell d.faults_before d.faults_now

-- What is left where these violations aren't all handed out: one was refused, or there was no memory to take
-- one or to find the next.
abbrev pub HasStopped : DeskError → List Violation → Desk → Type 0
HasStopped (Refused reporter) all d =
    StopsAt (Refused reporter) all d.held_before d.held_now d.faults_before d.faults_now
    × MayRefuse d.may_refuse (Refused reporter)
HasStopped Memory all d = GrewInPart all d.held_before d.held_now
