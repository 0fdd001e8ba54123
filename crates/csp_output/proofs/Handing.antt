-- The violations of requests, of which some have been handed out.
use Rattle.std.proofs.Common.{◌≡◌, ◌<◌, ◌+◌, ◌++◌, ℕ, Bool, List, length, take, drop, get_or, Result, Ok, Err}
use Rattle.std.proofs.Common.{sym, ap, ◌∙◌, subst, arith}
use Rattle.std.proofs.lemmas.Grind.{common_steps}
use Rattle.std.proofs.lemmas.List.{take-append-drop}
use Rattle.std.proofs.lemmas.List.Concat.{flat_map-append}
use Rattle.std.specs.List.{flat_map}
use Rattle.csp_desk.specs.Growth.{NoneFell, all_grown, GrewInPart, MayRefuse, StopsAt}
use Rattle.csp_desk.specs.declared.desk.DeskError.{DeskError}
use Rattle.csp_desk.specs.declared.desk.DeskError.TheVariants.{Refused, Memory}
use Rattle.csp_desk.proofs.GrowthLaws.{all_grown-append, GrewInPart-all, GrewInPart-front, GrewInPart-StopsAt, StopsAt-append, StopsAt-front}
use Rattle.csp_model.specs.declared.verdict.Violation.{Violation}
use Rattle.csp_desk.specs.Desk.{Desk, HasStopped}

-- Some requests and the others

-- the violations of one request more
pub one_more : {R V : Type 0} (f : R → List V) (requests : List R) (place : ℕ) (r : R) → place < length requests
    → r ≡ get_or requests place r
    → flat_map f (take place requests) ++ f r ≡ flat_map f (take (place + 1) requests)
one_more f requests place r within is = grind (arith, common_steps, within, is)

-- those of all are those of the first ones and those of the others
pub first_and_others : {R V : Type 0} (f : R → List V) (requests : List R) (place : ℕ)
    → flat_map f (take place requests) ++ flat_map f (drop place requests) ≡ flat_map f requests
first_and_others f requests place =
    sym (flat_map-append f (take place requests) (drop place requests)) ∙ ap (flat_map f) (take-append-drop place requests)

-- each reporter took those of the first requests, and then those of the next
pub taken_more : {R V : Type 0} (f : R → List V) (requests : List R) (place : ℕ) (r : R)
    (before between now : List (List V)) → place < length requests → r ≡ get_or requests place r
    → between ≡ all_grown (flat_map f (take place requests)) before → now ≡ all_grown (f r) between
    → now ≡ all_grown (flat_map f (take (place + 1) requests)) before
taken_more f requests place r before between now within is took more =
    more ∙ ap (all_grown (f r)) took ∙ all_grown-append (flat_map f (take place requests)) (f r) before
    ∙ ap (λ vs. all_grown vs before) (one_more f requests place r within is)

-- where each took all, each took a part
pub all_taken : {V : Type 0} (all : List V) (before now : List (List V)) → now ≡ all_grown all before
    → GrewInPart all before now
all_taken all before now took =
    subst (λ (lists : _). GrewInPart all before lists) (sym took) (GrewInPart-all all before)

-- where each took those of the first requests, each took a part of all
pub taken_so_far : {R V : Type 0} (f : R → List V) (requests : List R) (place : ℕ) (before now : List (List V))
    → now ≡ all_grown (flat_map f (take place requests)) before → GrewInPart (flat_map f requests) before now
taken_so_far f requests place before now took =
    let first = flat_map f (take place requests) in
    let others = flat_map f (drop place requests) in
    let P = λ (vs : _). GrewInPart vs before now in
    subst P (first_and_others f requests place)
    (GrewInPart-front first others before now (all_taken first before now took))

-- Where handing out stops

has_stopped : (e : DeskError) (all : List Violation) (d : Desk)
    → StopsAt e all d.held_before d.held_now d.faults_before d.faults_now → MayRefuse d.may_refuse e
    → HasStopped e all d
has_stopped (Refused reporter) all d stops may = (stops, may)
has_stopped Memory all d stops may = GrewInPart-StopsAt Memory all d.held_before d.held_now d.faults_before d.faults_now stops

-- it stopped at the violations of one request, those before which each reporter took
pub stopped_at : {R : Type 0} (f : R → List Violation) (requests : List R) (place : ℕ) (r : R) (e : DeskError)
    (d : Desk) (between : List (List Violation)) (counts : List ℕ) (refusing : List Bool)
    → place < length requests → r ≡ get_or requests place r
    → between ≡ all_grown (flat_map f (take place requests)) d.held_before → NoneFell d.faults_before counts
    → refusing ≡ d.may_refuse
    → StopsAt e (f r) between d.held_now counts d.faults_now → MayRefuse refusing e
    → HasStopped e (flat_map f requests) d
stopped_at f requests place r e d between counts refusing within is took later same stops may =
    let first = flat_map f (take place requests) in
    let here : StopsAt e (f r) (all_grown first d.held_before) d.held_now counts d.faults_now =
    subst (λ (lists : List (List Violation)). StopsAt e (f r) lists d.held_now counts d.faults_now) took stops in
    let behind : StopsAt e (first ++ f r) d.held_before d.held_now d.faults_before d.faults_now =
    StopsAt-append e first (f r) d.held_before d.held_now d.faults_before counts d.faults_now later here in
    let P : List Violation → Type 0 =
    λ vs. StopsAt e vs d.held_before d.held_now d.faults_before d.faults_now in
    has_stopped e (flat_map f requests) d
    (subst P (first_and_others f requests (place + 1))
    (StopsAt-front e (flat_map f (take (place + 1) requests)) (flat_map f (drop (place + 1) requests))
    d.held_before d.held_now d.faults_before d.faults_now
    (subst P (one_more f requests place r within is) behind)))
    (subst (λ (l : List Bool). MayRefuse l e) same may)

-- what is there is no error
pub ok_is_no_error : {A E : Type 0} (r : Result A E) (a : A) (e : E) → r ≡ Ok a → r ≡ Err e → ⊥
ok_is_no_error r a e is other = cc (sym is ∙ other)
