-- What a cell's literals say of one part: the positive literal on it, where there is one, and denials.
use Rattle.std.proofs.Common.{◌≡◌, ◌≢◌, ◌∙◌, Bool, true, false, not, ◌&&◌, if◌then◌else◌, cond, List, [], ◌∷◌, get_or, filter, Option, Some, Result, Ok, Err, IfOk, All, Any, AllPairs, Contains, refl, sym, ap, subst, ◌⊎◌, inl, inr}
use Rattle.std.proofs.lemmas.Bool.{false≢true, false_from_ne_true, cases_order}
use Rattle.std.proofs.lemmas.List.{get_or_default}
use Rattle.std.proofs.lemmas.List.Elements.{All-nil, All-cons, All-head, All-tail, All-filter, All-contains, All-contains_itself, filter_passes}
use Rattle.csp_model.specs.declared.check.CheckPart.{CheckPart}
use Rattle.csp_model.specs.declared.check.CheckPart.TheVariants as part
use Rattle.csp_facts.proofs.Own.{own}
use Rattle.csp_facts.proofs.Refutes.{refutes_back}
use Rattle.csp_facts.specs.Atoms.{part_of}
use Rattle.csp_facts.specs.Follows.{follows, follows_true, Refutes}
use Rattle.csp_facts.specs.declared.atom.Atom.{Atom}
use Rattle.csp_facts.specs.declared.atom.Atom.TheVariants.{IntegrityHas, IntegrityOutside}
use Rattle.csp_facts.specs.declared.atom.Literal.{Literal}
use Rattle.csp_cell.specs.Cells.{StandTogether, places, is_integrity}
use Rattle.csp_cell.proofs.Once.{placed_once}
use Rattle.csp_pick.specs.Parts.{agrees, MeetPart}

-- Filters

module _ {X : Type 0} (p : X → Bool) where
  pub filter_has : (xs : List X) (x : X) → Contains (filter p xs) x → Contains xs x × (p x ≡ true)
  filter_has xs x has = (
    All-contains (Contains xs) (filter p xs) x (All-filter p (Contains xs) xs (All-contains_itself xs)) has,
    All-contains (λ y. p y ≡ true) (filter p xs) x (filter_passes p xs) has,
  )

  by_test : (Q : X → Type 0) (x : X) (xs : List X) (test : Bool) → p x ≡ test → All Q (cond test (x ∷ filter p xs) (filter p xs))
      → (All Q (filter p xs) → All (λ y. p y ≡ true → Q y) xs) → All (λ y. p y ≡ true → Q y) (x ∷ xs)
  by_test Q x xs true e all later =
      All-cons (λ y. p y ≡ true → Q y) x xs (λ _. All-head Q x (filter p xs) all) (later (All-tail Q x (filter p xs) all))
  by_test Q x xs false e all later = All-cons (λ y. p y ≡ true → Q y) x xs (λ passes. absurd (false≢true (sym e ∙ passes))) (later all)

  -- what holds of each item that passes
  pub of_filter : (Q : X → Type 0) (xs : List X) → All Q (filter p xs) → All (λ y. p y ≡ true → Q y) xs
  of_filter Q [] all = All-nil (λ y. p y ≡ true → Q y)
  of_filter Q (x ∷ xs) all = by_test Q x xs (p x) refl all (of_filter Q xs)

-- some literal that passes says this: it stands in the list
pub said_by : {A : Type 0} (say : Atom → Option A) (p : Literal → Bool) (ls : List Literal) (x : A) → Any (λ l. say l.atom ≡ Some x) (filter p ls)
    → (m : Literal) × Contains ls m × (p m ≡ true) × (say m.atom ≡ Some x)
said_by say p ls x (k, m, lt, at, says) = let (has, passes) = filter_has p ls m (k, lt, at) in (m, has, passes, says)

-- Literals that stand together

turned : (l m : Literal) → StandTogether l m → StandTogether m l
turned l m (beside, other, apart) = (other, beside, λ refutes. apart (refutes_back m l refutes))

-- each literal is this one, or stands together with it
pub beside : (ls : List Literal) (m : Literal) → AllPairs StandTogether ls → Contains ls m → All (λ l. (m ≡ l) ⊎ StandTogether m l) ls
beside ls m pairs (i, lt, at) k d h =
    elim (cases_order i k) [
      | inl same ↦ inl (sym at ∙ get_or_default ls i m d lt ∙ ap (λ j. get_or ls j d) same)
      | inr other ↦ elim other [
        | inl before ↦ inr (subst (λ l. StandTogether l (get_or ls k d)) (get_or_default ls i d m lt ∙ at) (pairs i k d before h))
        | inr after ↦ inr (turned (get_or ls k d) m (subst (λ l. StandTogether (get_or ls k d) l) (get_or_default ls i d m lt ∙ at) (pairs k i d after lt)))
      ]
    ]

differs : (b : Bool) → ◌≡◌ {A = Option Bool} (Some b) (Some (not b)) → ⊥
differs true e = cc
differs false e = cc

pub unrefuted : (ls : List Literal) (m : Literal) → AllPairs StandTogether ls → Contains ls m → All (λ l. ¬ Refutes m l) ls
unrefuted ls m pairs has k d h =
    elim (beside ls m pairs has k d h) [
      | inl same ↦ subst (λ l. ¬ Refutes m l) same (λ refutes. differs m.positive (sym (own m) ∙ refutes))
      | inr stand ↦ stand.2
    ]

-- each other literal on the part of a positive one is a denial
pub beside_placed : (ls : List Literal) (m : Literal) → AllPairs StandTogether ls → Contains ls m → places m ≡ true
    → All (λ l. part_of m.atom ≡ part_of l.atom → (m ≡ l) ⊎ ((places l ≡ false) × ¬ Refutes m l)) ls
beside_placed ls m pairs has placing k d h same =
    let l = get_or ls k d in
    elim (beside ls m pairs has k d h) [
      | inl is ↦ inl is
      | inr stand ↦ inr (false_from_ne_true (places l) (λ other. placed_once m l stand placing other same), stand.2)
    ]

-- Meeting the literals of one part

-- what places a part is positive
pub positive_of : (m : Literal) → places m ≡ true → m.positive ≡ true
positive_of m e = by_sign m.positive (is_integrity m.atom) e
  where
    by_sign : (sign integrity : Bool) → (sign && not integrity) ≡ true → sign ≡ true
    by_sign true integrity f = refl
    by_sign false integrity f = f

no_integrity : (on : CheckPart) (a : Atom) → on ≢ part.Integrity → part_of a ≡ on → is_integrity a ≡ false
no_integrity on (IntegrityHas h) plain e = absurd (plain (sym e))
no_integrity on IntegrityOutside plain e = absurd (plain (sym e))
no_integrity on a plain e = refl

pub denial_of : (on : CheckPart) (l : Literal) → on ≢ part.Integrity → part_of l.atom ≡ on → places l ≡ false → l.positive ≡ false
denial_of on l plain e unplaced = by_sign l.positive (is_integrity l.atom) (no_integrity on l.atom plain e) unplaced
  where
    by_sign : (sign integrity : Bool) → integrity ≡ false → (sign && not integrity) ≡ false → sign ≡ false
    by_sign true true f g = absurd cc
    by_sign true false f g = g
    by_sign false integrity f g = refl

pub agrees_placed : (test : Atom → Bool) (l : Literal) → l.positive ≡ true → test l.atom ≡ true → agrees test l ≡ true
agrees_placed test l e f = rw e f

pub agrees_denied : (test : Atom → Bool) (l : Literal) → l.positive ≡ false → test l.atom ≡ false → agrees test l ≡ true
agrees_denied test l e f = by_sign l.positive (test l.atom) e f
  where
    by_sign : (sign b : Bool) → sign ≡ false → b ≡ false → (if sign then b else not b) ≡ true
    by_sign true b e f = absurd cc
    by_sign false true e f = absurd cc
    by_sign false false e f = refl

agrees_known : (sign b : Bool) → (◌≡◌ {A = Option Bool} (Some b) (Some (not sign)) → ⊥) → (if sign then b else not b) ≡ true
agrees_known true true h = refl
agrees_known true false h = absurd (h refl)
agrees_known false true h = absurd (h refl)
agrees_known false false h = refl

pub follows_placed : (m : Literal) (a : Atom) → m.positive ≡ true → follows m a ≡ follows_true m.atom a
follows_placed m a e = rw e refl

-- a positive literal decides the part: the test says what it says
pub placed_meets : (on : CheckPart) (test : Atom → Bool) (ls : List Literal) (m : Literal) → AllPairs StandTogether ls
    → Contains ls m → m.positive ≡ true → ((a : Atom) → part_of a ≡ on → follows_true m.atom a ≡ Some (test a))
    → MeetPart on test ls
placed_meets on test ls m pairs has positive says k d h e =
    let l = get_or ls k d in
    agrees_known l.positive (test l.atom)
    (λ refutes. unrefuted ls m pairs has k d h (follows_placed m l.atom positive ∙ says l.atom e ∙ refutes))

-- no literal places the part: the test is false of all that is denied
pub denied_meets : (on : CheckPart) (test : Atom → Bool) (ls : List Literal) → on ≢ part.Integrity
    → All (λ l. part_of l.atom ≢ on) (filter places ls)
    → All (λ l. part_of l.atom ≡ on → test l.atom ≡ false) (filter (λ l. not (places l)) ls)
    → MeetPart on test ls
denied_meets on test ls plain none denied k d h e = by_place (places l) refl
  where
    l : Literal
    l = get_or ls k d

    by_place : (placing : Bool) → places l ≡ placing → agrees test l ≡ true
    by_place true is = absurd (of_filter places (λ m. part_of m.atom ≢ on) ls none k d h is e)
    by_place false is =
        agrees_denied test l (denial_of on l plain e is)
        (of_filter (λ m. not (places m)) (λ m. part_of m.atom ≡ on → test m.atom ≡ false) ls denied k d h (ap not is) e)

-- Results

pub both_ok : {A E : Type 0} (P Q R : A → Type 0) (r : Result A E) → ((a : A) → P a → Q a → R a) → IfOk r P → IfOk r Q → IfOk r R
both_ok P Q R (Ok a) join p q = join a p q
both_ok P Q R (Err e) join p q = tt
