-- Handing out one list of violations after another is handing out both in one.
use Rattle.std.proofs.Common.{◌≡◌, ℕ, ◌+◌, ◌-◌, ◌<◌, ◌≤◌, ◌⊎◌, inl, inr, ◌++◌, ◌∷◌, [], List, length, take, drop, refl, sym, ◌∙◌, ap, subst, arith, append_assoc}
use Rattle.std.proofs.Math.Nat.{eq-or-lt_of_le}
use Rattle.std.proofs.Math.Seq.{take-append-add, take-append_seam}
use Rattle.std.proofs.lemmas.List.{length-map, length-append, map-append, take-map, take-append-le, take-append-drop, take_all, append-nil}
use Rattle.std.specs.List.{drop-map}
use Rattle.csp_io.specs.Told.{Rose}
use Rattle.csp_desk.specs.Growth.{NoneFell, all_grown, part_way, GrewInPart, StopsAt}
use Rattle.csp_desk.specs.declared.desk.DeskError.{DeskError}
use Rattle.csp_desk.specs.declared.desk.DeskError.TheVariants.{Refused, Memory}

-- Counts

pub Rose-earlier : (a b c : ℕ) → a ≤ b → Rose b c → Rose a c
Rose-earlier a b c le rose = omega (arith, rose)

pub NoneFell-trans : (a b c : List ℕ) → NoneFell a b → NoneFell b c → NoneFell a c
NoneFell-trans a b c first second k = omega (arith, first k, second k)

-- All of a list

pub all_grown-nil : {V : Type 0} → (lists : List (List V)) → all_grown [] lists ≡ lists
all_grown-nil [] = refl
all_grown-nil (l ∷ ls) = rw (append-nil l, all_grown-nil ls) refl

pub all_grown-append : {V : Type 0} → (first second : List V) (lists : List (List V))
    → all_grown second (all_grown first lists) ≡ all_grown (first ++ second) lists
all_grown-append first second [] = refl
all_grown-append first second (l ∷ ls) =
    rw (append_assoc l first second, all_grown-append first second ls) refl

-- A part of it

-- all of the first list, and then a part of the second
pub part_way-append : {V : Type 0} → (first second : List V) (turn place : ℕ) (lists : List (List V))
    → part_way second turn place (all_grown first lists)
    ≡ part_way (first ++ second) (length first + turn) place lists
part_way-append first second turn place lists =
    let more : length first + turn + 1 ≡ length first + (turn + 1) = omega arith in
    rw (
      more,
      take-append-add first second (turn + 1),
      take-append-add first second turn,
      take-map (λ l. l ++ first) place lists,
      drop-map (λ l. l ++ first) place lists,
      all_grown-append first (take (turn + 1) second) (take place lists),
      all_grown-append first (take turn second) (drop place lists),
    ) refl

-- a part of the first list
pub part_way-front : {V : Type 0} → (first second : List V) (turn place : ℕ) (lists : List (List V))
    → turn < length first → part_way first turn place lists ≡ part_way (first ++ second) turn place lists
part_way-front first second turn place lists below =
    let next : turn + 1 ≤ length first = omega arith in
    let this : turn ≤ length first = omega arith in
    rw (take-append-le (turn + 1) first second next, take-append-le turn first second this) refl

-- all of it, whatever the place
part_way-end : {V : Type 0} → (items : List V) (place : ℕ) (lists : List (List V))
    → part_way items (length items) place lists ≡ all_grown items lists
part_way-end items place lists =
    rw (take_all (length items + 1) items (omega arith), take_all (length items) items (omega arith))
    (sym (map-append (λ l. l ++ items) (take place lists) (drop place lists)) ∙ ap (all_grown items) (take-append-drop place lists))

-- none of the second list
part_way-start : {V : Type 0} → (first second : List V) (lists : List (List V))
    → part_way (first ++ second) (length first) 0 lists ≡ all_grown first lists
part_way-start first second lists = rw (take-append_seam first second) refl

-- Parts and stops

pub GrewInPart-append : {V : Type 0} → (first second : List V) (before now : List (List V))
    → GrewInPart second (all_grown first before) now → GrewInPart (first ++ second) before now
GrewInPart-append first second before now (turn, place, within, left) = (
  length first + turn,
  place,
  rw (length-append first second) (omega arith),
  left ∙ part_way-append first second turn place before,
)

pub GrewInPart-all : {V : Type 0} → (items : List V) (before : List (List V))
    → GrewInPart items before (all_grown items before)
GrewInPart-all items before = (length items, 0, omega arith, sym (part_way-end items 0 before))

front_of : {V : Type 0} → (first second : List V) (turn place : ℕ) (before now : List (List V))
    → (turn ≡ length first) ⊎ (turn < length first) → now ≡ part_way first turn place before
    → GrewInPart (first ++ second) before now
front_of first second turn place before now (inl end) left = (
  length first,
  0,
  rw (length-append first second) (omega arith),
  subst (λ (n : ℕ). now ≡ part_way first n place before) end left
      ∙ part_way-end first place before ∙ sym (part_way-start first second before),
)
front_of first second turn place before now (inr below) left = (
  turn,
  place,
  rw (length-append first second) (omega arith),
  left ∙ part_way-front first second turn place before below,
)

pub GrewInPart-front : {V : Type 0} → (first second : List V) (before now : List (List V))
    → GrewInPart first before now → GrewInPart (first ++ second) before now
GrewInPart-front first second before now (turn, place, within, left) =
    front_of first second turn place before now (eq-or-lt_of_le within) left

pub GrewInPart-StopsAt : {V : Type 0} → (e : DeskError) (items : List V) (before now : List (List V))
    (faults_before faults_now : List ℕ) → StopsAt e items before now faults_before faults_now
    → GrewInPart items before now
GrewInPart-StopsAt (Refused reporter) items before now faults_before faults_now (turn, below, some, within, left, rose) =
    (turn, reporter - 1, omega arith, left)
GrewInPart-StopsAt Memory items before now faults_before faults_now (turn, place, below, within, left) =
    (turn, place, omega arith, left)

pub StopsAt-append : {V : Type 0} → (e : DeskError) (first second : List V) (before now : List (List V))
    (faults_before faults_between faults_now : List ℕ) → NoneFell faults_before faults_between
    → StopsAt e second (all_grown first before) now faults_between faults_now
    → StopsAt e (first ++ second) before now faults_before faults_now
StopsAt-append (Refused reporter) first second before now faults_before faults_between faults_now later (turn, below, some, within, left, rose) = (
  length first + turn,
  rw (length-append first second) (omega arith),
  some,
  rw (← length-map before (λ l. l ++ first)) within,
  left ∙ part_way-append first second turn (reporter - 1) before,
  Rose-earlier _ _ _ (later (reporter - 1)) rose,
)
StopsAt-append Memory first second before now faults_before faults_between faults_now later (turn, place, below, within, left) = (
  length first + turn,
  place,
  rw (length-append first second) (omega arith),
  rw (← length-map before (λ l. l ++ first)) within,
  left ∙ part_way-append first second turn place before,
)

pub StopsAt-front : {V : Type 0} → (e : DeskError) (first second : List V) (before now : List (List V))
    (faults_before faults_now : List ℕ) → StopsAt e first before now faults_before faults_now
    → StopsAt e (first ++ second) before now faults_before faults_now
StopsAt-front (Refused reporter) first second before now faults_before faults_now (turn, below, some, within, left, rose) = (
  turn,
  rw (length-append first second) (omega arith),
  some,
  within,
  left ∙ part_way-front first second turn (reporter - 1) before below,
  rose,
)
StopsAt-front Memory first second before now faults_before faults_now (turn, place, below, within, left) = (
  turn,
  place,
  rw (length-append first second) (omega arith),
  within,
  left ∙ part_way-front first second turn place before below,
)

-- One list after another

pub all_grown-then : {V : Type 0} → (first second : List V) (before between now : List (List V))
    → between ≡ all_grown first before → now ≡ all_grown second between
    → now ≡ all_grown (first ++ second) before
all_grown-then first second before between now begun took =
    took ∙ ap (all_grown second) begun ∙ all_grown-append first second before

pub GrewInPart-then : {V : Type 0} → (first second : List V) (before between now : List (List V))
    → between ≡ all_grown first before → GrewInPart second between now
    → GrewInPart (first ++ second) before now
GrewInPart-then {V} first second before between now begun part =
    GrewInPart-append first second before now
    (subst (λ (lists : List (List V)). GrewInPart second lists now) begun part)

pub StopsAt-then : {V : Type 0} → (e : DeskError) (first second : List V) (before between now : List (List V))
    (faults_before faults_between faults_now : List ℕ) → between ≡ all_grown first before
    → NoneFell faults_before faults_between → StopsAt e second between now faults_between faults_now
    → StopsAt e (first ++ second) before now faults_before faults_now
StopsAt-then {V} e first second before between now faults_before faults_between faults_now begun later stops =
    StopsAt-append e first second before now faults_before faults_between faults_now later
    (subst (λ (lists : List (List V)). StopsAt e second lists now faults_between faults_now) begun stops)
