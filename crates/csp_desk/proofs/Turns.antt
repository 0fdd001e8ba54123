-- One reporter takes its turn, and one violation takes its turn.
use Rattle.std.proofs.Common.{◌≡◌, ℕ, Bool, true, false, ◌+◌, ◌-◌, ◌<◌, ◌≤◌, ◌∷◌, ◌++◌, [], List, map, length, get_or, set, take, drop, sym, ◌∙◌, ap, subst, arith}
use Rattle.std.proofs.lemmas.Grind.{common_steps}
use Rattle.std.proofs.lemmas.List.{map-set, take_more, take-append-drop, length-map, get_or-map, get_or-set_same}
use Rattle.std.proofs.lemmas.List.Edits.{map_over_more}
use Rattle.std.proofs.Math.Seq.{map-set_same, take-append_seam}
use Rattle.std.specs.Prelude.{slice_index}
use Rattle.csp_io.specs.Told.{Rose}
use Rattle.csp_desk.specs.Growth.{NoneFell, all_grown, part_way, MayRefuse, StopsAt}
use Rattle.csp_desk.specs.declared.desk.DeskError.{DeskError}
use Rattle.csp_desk.specs.declared.desk.DeskError.TheVariants.{Refused}
use Rattle.csp_desk.proofs.GrowthLaws.{Rose-earlier, all_grown-nil, all_grown-then, StopsAt-front, StopsAt-then}

-- A reporter's turn: at a place of a list of reporters, of which f tells something, y is written

-- a number that is no less is written
NoneFell-set : (before now : List ℕ) (i y : ℕ) → NoneFell before now → get_or now i 0 ≤ y → i < length now
    → NoneFell before (set now i y)
NoneFell-set before now i y later no_less below k = grind (arith, common_steps, later k)

pub NoneFell-turn : {A : Type 0} (faults : A → ℕ) (before now : List A) (i : ℕ) (y d : A)
    → NoneFell (map faults before) (map faults now) → i < length now → faults (get_or now i d) ≤ faults y
    → NoneFell (map faults before) (map faults (set now i y))
NoneFell-turn faults before now i y d later below le =
    let len : i < length (map faults now) = rw (length-map now faults) below in
    let no_less : get_or (map faults now) i 0 ≤ faults y = rw (get_or-map faults now i d 0 below) le in
    rw (map-set faults now i y) (NoneFell-set (map faults before) (map faults now) i (faults y) later no_less len)

-- it is the same to f
pub same-turn : {A K : Type 0} (f : A → K) (before now : List A) (i : ℕ) (y d : A)
    → map f now ≡ map f before → f y ≡ f (get_or now i d) → map f (set now i y) ≡ map f before
same-turn f before now i y d so_far same = map-set_same f now i y d same ∙ so_far

-- it holds more
pub took-turn : {A V : Type 0} (held : A → List V) (more : List V) (before now : List A) (i : ℕ) (y d : A)
    → map held now ≡ all_grown more (take i (map held before)) ++ drop i (map held before)
    → i < length now → length now ≡ length before → held y ≡ held (get_or now i d) ++ more
    → map held (set now i y) ≡ all_grown more (take (i + 1) (map held before)) ++ drop (i + 1) (map held before)
took-turn held more before now i y d so_far below len took =
    let at : held (get_or now i d) ≡ get_or (map held now) i (held (get_or now i d))
    = sym (get_or-map held now i d (held (get_or now i d)) below) in
    let within : i < length (map held before) = rw (length-map before held, ← len) below in
    rw (map-set held now i y, took)
    (map_over_more (λ l. l ++ more) (map held before) (map held now) i (held (get_or now i d)) within so_far at)

-- it holds what it held, in the turn of one violation
pub stopped-turn : {A V : Type 0} (held : A → List V) (v : V) (before now : List A) (i : ℕ) (y d : A)
    → map held now ≡ all_grown (v ∷ []) (take i (map held before)) ++ drop i (map held before)
    → held y ≡ held (get_or now i d) → map held (set now i y) ≡ part_way (v ∷ []) 0 i (map held before)
stopped-turn held v before now i y d so_far same =
    rw (all_grown-nil (drop i (map held before))) (map-set_same held now i y d same ∙ so_far)

-- its count rose
pub Rose-turn : {A : Type 0} (faults : A → ℕ) (before now : List A) (i : ℕ) (y d : A)
    → NoneFell (map faults before) (map faults now) → i < length now → Rose (faults (get_or now i d)) (faults y)
    → Rose (slice_index (map faults before) i) (slice_index (map faults (set now i y)) i)
Rose-turn faults before now i y d later below rose =
    let len : i < length (map faults now) = rw (length-map now faults) below in
    let was : get_or (map faults now) i 0 ≡ faults (get_or now i d) = get_or-map faults now i d 0 below in
    let first : get_or (map faults before) i 0 ≤ faults (get_or now i d) = rw (← was) (later i) in
    rw (map-set faults now i y, get_or-set_same (map faults now) i (faults y) 0 len) (Rose-earlier _ _ _ first rose)

-- it refused, and is one that may
pub MayRefuse-turn : {A : Type 0} (may : A → Bool) (before now : List A) (i : ℕ) (d : A)
    → map may now ≡ map may before → i < length now → may (get_or now i d) ≡ true
    → MayRefuse (map may before) (Refused (i + 1))
MayRefuse-turn may before now i d same below is =
    let e : i + 1 - 1 ≡ i = omega arith in
    rw e (ap (λ l. get_or l i false) (sym same) ∙ get_or-map may now i d false below ∙ is)

-- of two lists that are the same, as reporters take their turns
pub MayRefuse-same : (e : DeskError) (before now : List Bool) → now ≡ before → MayRefuse now e
    → MayRefuse before e
MayRefuse-same e before now same may = subst (λ (l : List Bool). MayRefuse l e) same may

-- the one after i others refused
pub StopsAt-refused : {V : Type 0} (items : List V) (turn i : ℕ) (before now : List (List V))
    (faults_before faults_now : List ℕ) → turn < length items → i < length before
    → now ≡ part_way items turn i before → Rose (slice_index faults_before i) (slice_index faults_now i)
    → StopsAt (Refused (i + 1)) items before now faults_before faults_now
StopsAt-refused items turn i before now faults_before faults_now below within left rose =
    let e : i + 1 - 1 ≡ i = omega arith in
    (turn, below, omega arith, omega arith, rw e left, rw e rose)

-- A violation's turn

pub next_of : {V : Type 0} (items : List V) (turn : ℕ) (v : V) → turn < length items → v ≡ get_or items turn v
    → take turn items ++ v ∷ [] ≡ take (turn + 1) items
next_of items turn v below is =
    sym (take_more items turn v below ∙ ap (λ w. take turn items ++ w ∷ []) (sym is))

-- all reporters took it
pub all_grown-turn : {V : Type 0} (items : List V) (turn : ℕ) (v : V) (before between now : List (List V))
    → turn < length items → v ≡ get_or items turn v → between ≡ all_grown (take turn items) before
    → now ≡ all_grown (v ∷ []) between → now ≡ all_grown (take (turn + 1) items) before
all_grown-turn items turn v before between now below is so_far took =
    all_grown-then (take turn items) (v ∷ []) before between now so_far took
    ∙ ap (λ l. all_grown l before) (next_of items turn v below is)

-- handing it out stopped
pub StopsAt-turn : {V : Type 0} (e : DeskError) (items : List V) (turn : ℕ) (v : V)
    (before between now : List (List V)) (faults_before faults_between faults_now : List ℕ)
    → turn < length items → v ≡ get_or items turn v → between ≡ all_grown (take turn items) before
    → NoneFell faults_before faults_between
    → StopsAt e (v ∷ []) between now faults_between faults_now
    → StopsAt e items before now faults_before faults_now
StopsAt-turn {V} e items turn v before between now faults_before faults_between faults_now below is so_far later stops =
    let so_far_and_this = take turn items ++ v ∷ [] in
    let all : so_far_and_this ++ drop (turn + 1) items ≡ items
    = ap (λ l. l ++ drop (turn + 1) items) (next_of items turn v below is) ∙ take-append-drop (turn + 1) items in
    subst (λ (l : List V). StopsAt e l before now faults_before faults_now) all
    (StopsAt-front e so_far_and_this (drop (turn + 1) items) before now faults_before faults_now
    (StopsAt-then e (take turn items) (v ∷ []) before between now faults_before faults_between faults_now so_far later stops))

-- a slice of a whole `Vec`
pub take-whole : {A : Type 0} (n : ℕ) (xs ys : List A) → length xs ≡ n → take n (xs ++ ys) ≡ xs
take-whole n xs ys e = rw (← e) (take-append_seam xs ys)
