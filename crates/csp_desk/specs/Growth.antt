-- How what reporters hold, and their counts of faults, change as violations are handed out.
use Rattle.std.specs.Prelude.{◌≡◌, ℕ, ◌+◌, ◌-◌, ◌<◌, ◌≤◌, ◌++◌, List, map, take, drop, length, slice_index}
use Rattle.std.specs.Prelude.{Bool, false, get_or, IsTrue}
use Rattle.csp_io.specs.Told.{Rose}
use Rattle.csp_desk.specs.declared.desk.DeskError.{DeskError}
use Rattle.csp_desk.specs.declared.desk.DeskError.TheVariants.{Refused, Memory}

-- a refusal names a reporter that may refuse, counted from 1 in this list of which reporters may
abbrev pub MayRefuse : List Bool → DeskError → Type 0
MayRefuse may (Refused reporter) = IsTrue (get_or may (reporter - 1) false)
MayRefuse may Memory = Unit {0}

-- no count of a list fell
abbrev pub NoneFell : List ℕ → List ℕ → Type 0
NoneFell before now = (k : ℕ) → slice_index before k ≤ slice_index now k

-- each list with these items at its end
abbrev pub all_grown : {V : Type 0} → List V → List (List V) → List (List V)
all_grown items lists = map (λ list. list ++ items) lists

-- each list with the first `turn` items at its end, and the first `place` lists with one item more
abbrev pub part_way : {V : Type 0} → List V → ℕ → ℕ → List (List V) → List (List V)
part_way items turn place lists =
    all_grown (take (turn + 1) items) (take place lists) ++ all_grown (take turn items) (drop place lists)

-- each list grew by some first items, the lists before some place by one item more
abbrev pub GrewInPart : {V : Type 0} → List V → List (List V) → List (List V) → Type 0
GrewInPart items before now =
    (turn : ℕ) × (place : ℕ) × (turn ≤ length items) × (now ≡ part_way items turn place before)

-- handing out stopped: each reporter took some first violations, and those before the one at which it stopped
-- took one more. A refusal names that one, counted from 1, and its count rose.
abbrev pub StopsAt : {V : Type 0} → DeskError → List V → List (List V) → List (List V) → List ℕ → List ℕ
    → Type 0
StopsAt (Refused reporter) items held_before held_now faults_before faults_now =
    (turn : ℕ) × (turn < length items) × (0 < reporter) × (reporter ≤ length held_before)
    × (held_now ≡ part_way items turn (reporter - 1) held_before)
    × Rose (slice_index faults_before (reporter - 1)) (slice_index faults_now (reporter - 1))
StopsAt Memory items held_before held_now faults_before faults_now =
    (turn : ℕ) × (place : ℕ) × (turn < length items) × (place < length held_before)
    × (held_now ≡ part_way items turn place held_before)
