-- A list that takes a literal: what holds of it, and what it decides.
use Rattle.std.proofs.Common.{◌≡◌, ◌∙◌, suc, Bool, true, false, not, cond, List, [], ◌∷◌, ◌++◌, filter, Option, Some, None, All, AllPairs, arith, refl, sym, subst, ◌⊎◌, inl, inr}
use Rattle.std.proofs.lemmas.List.{append-nil}
use Rattle.std.proofs.lemmas.List.Elements.{All-cons, All-head, All-tail, All-nil, All-filter, All-push, All-weaker}
use Rattle.std.proofs.lemmas.List.Kept.{AllPairs-cons}
use Rattle.csp_facts.proofs.Refutes.{refutes_back}
use Rattle.csp_facts.specs.Follows.{follows, Refutes, decided, or_else}
use Rattle.csp_facts.specs.declared.atom.Atom.{Atom}
use Rattle.csp_facts.specs.declared.atom.Literal.{Literal}
use Rattle.csp_cell.specs.Cells.{implies, Takes}
use Rattle.csp_cell.proofs.Covering.{implied}
use Rattle.csp_cell.proofs.Through.{through}

-- Lists with one item more

module _ {X : Type 0} where
  pub all_insert : (P : X → Type 0) (front back : List X) (x : X) → All P (front ++ back) → P x → All P (front ++ x ∷ back)
  all_insert P [] back x all here = All-cons P x back here all
  all_insert P (f ∷ front) back x all here =
      All-cons P f (front ++ x ∷ back) (All-head P f (front ++ back) all) (all_insert P front back x (All-tail P f (front ++ back) all) here)

  all_remove : (P : X → Type 0) (front back : List X) (x : X) → All P (front ++ x ∷ back) → All P (front ++ back) × P x
  all_remove P [] back x all = (All-tail P x back all, All-head P x back all)
  all_remove P (f ∷ front) back x all =
      let (rest, here) = all_remove P front back x (All-tail P f (front ++ x ∷ back) all) in
      (All-cons P f (front ++ back) (All-head P f (front ++ x ∷ back) all) rest, here)

  pub pairs_head : (R : X → X → Type 0) (x : X) (xs : List X) → AllPairs R (x ∷ xs) → All (R x) xs
  pairs_head R x xs pairs k d h = pairs 0 (suc k) d (omega arith) (omega arith)

  pub pairs_tail : (R : X → X → Type 0) (x : X) (xs : List X) → AllPairs R (x ∷ xs) → AllPairs R xs
  pairs_tail R x xs pairs i j d low h = pairs (suc i) (suc j) d (omega arith) (omega arith)

  pub pairs_insert : (R : X → X → Type 0) (front back : List X) (x : X) → AllPairs R (front ++ back)
      → All (λ y. R x y × R y x) (front ++ back) → AllPairs R (front ++ x ∷ back)
  pairs_insert R [] back x pairs beside = AllPairs-cons R x back (All-weaker (λ y. R x y × R y x) (R x) (λ y both. both.0) back beside) pairs
  pairs_insert R (f ∷ front) back x pairs beside =
      AllPairs-cons R f (front ++ x ∷ back)
      (all_insert (R f) front back x (pairs_head R f (front ++ back) pairs) (All-head (λ y. R x y × R y x) f (front ++ back) beside).1)
      (pairs_insert R front back x (pairs_tail R f (front ++ back) pairs) (All-tail (λ y. R x y × R y x) f (front ++ back) beside))

  all_unfilter : (P : X → Type 0) (p : X → Bool) (xs : List X) → All P (filter p xs) → ((x : X) → p x ≡ false → P x) → All P xs
  all_unfilter P p [] all left = All-nil P
  all_unfilter P p (x ∷ xs) all left = by_test (p x) refl all (λ rest. all_unfilter P p xs rest left)
    where
      by_test : (b : Bool) → p x ≡ b → All P (cond b (x ∷ filter p xs) (filter p xs)) → (All P (filter p xs) → All P xs) → All P (x ∷ xs)
      by_test true e all later = All-cons P x xs (All-head P x (filter p xs) all) (later (All-tail P x (filter p xs) all))
      by_test false e all later = All-cons P x xs (left x e) (later all)

-- What holds of each literal

not_false : (b : Bool) → not b ≡ false → b ≡ true
not_false true e = refl
not_false false e = cc

not_true : (b : Bool) → not b ≡ true → b ≡ false
not_true true e = cc
not_true false e = refl

-- what holds of the old ones and of the literal holds of the new ones
pub all_taken : (P : Literal → Type 0) (old new : List Literal) (l : Literal) → Takes old l new → All P old → P l → All P new
all_taken P old new l (front, back, rest, list) all here =
    rw list (all_insert P front back l (rw rest (All-filter (λ other. not (implies l other)) P old all)) here)

-- what holds of what the literal makes true, and of the new ones, holds of the old ones and of the literal
pub all_given : (P : Literal → Type 0) (old new : List Literal) (l : Literal) → Takes old l new
    → ((other : Literal) → implies l other ≡ true → P l → P other) → All P new → All P old × P l
all_given P old new l (front, back, rest, list) covered all =
    let (kept, here) = all_remove P front back l (rw (← list) all) in
    (all_unfilter P (λ other. not (implies l other)) old (rw (← rest) kept) (λ other e. covered other (not_false (implies l other) e) here), here)

all_both : (P : Literal → Type 0) (old : List Literal) (l : Literal) → All P (old ++ l ∷ []) → All P old × P l
all_both P old l all =
    let (each, own) = all_remove P old [] l all in
    (subst (All P) (append-nil old) each, own)

-- Answers

pub both_none : (x y : Option Bool) → or_else x y ≡ None → (x ≡ None) × (y ≡ None)
both_none (Some v) y e = cc
both_none None y e = (refl, e)

pub all_none : (ls : List Literal) (a : Atom) → decided ls a ≡ None → All (λ m. follows m a ≡ None) ls
all_none [] a e = All-nil (λ m. follows m a ≡ None)
all_none (l ∷ ls) a e =
    let (here, rest) = both_none (follows l a) (decided ls a) e in
    All-cons (λ m. follows m a ≡ None) l ls here (all_none ls a rest)

pub none_decided : (ls : List Literal) (a : Atom) → All (λ m. follows m a ≡ None) ls → decided ls a ≡ None
none_decided [] a all = refl
none_decided (l ∷ ls) a all =
    rw (All-head (λ m. follows m a ≡ None) l ls all) (none_decided ls a (All-tail (λ m. follows m a ≡ None) l ls all))

-- two literals that give an atom two values refute one another
clash : (m n : Literal) (a : Atom) (v : Bool) → follows m a ≡ Some v → follows n a ≡ Some (not v) → Refutes m n
clash m n a v first second =
    let fact : Literal = record { atom = a; positive = v } in
    through m fact n.atom (not n.positive) first (refutes_back n fact second)

-- no literal, or this value
abbrev MayBe : Atom → Bool → Literal → Type 0
MayBe a v m = (follows m a ≡ None) ⊎ (follows m a ≡ Some v)

same_value : (m n : Literal) (a : Atom) (v : Bool) → follows m a ≡ Some v → ¬ Refutes m n → MayBe a v n
same_value m n a v first apart = by_answer v (follows n a) first refl
  where
    by_answer : (v : Bool) (answer : Option Bool) → follows m a ≡ Some v → follows n a ≡ answer → MayBe a v n
    by_answer v None first e = inl e
    by_answer true (Some true) first e = inr e
    by_answer false (Some false) first e = inr e
    by_answer true (Some false) first e = absurd (apart (clash m n a true first e))
    by_answer false (Some true) first e = absurd (apart (clash m n a false first e))

abbrev pub DontRefute : Literal → Literal → Type 0
DontRefute m n = ¬ Refutes m n

-- in a list where none refutes a later one, all that decide an atom give the value that the first gives
one_value : (ls : List Literal) (a : Atom) (v : Bool) → AllPairs DontRefute ls → decided ls a ≡ Some v → All (MayBe a v) ls
one_value [] a v pairs e = cc
one_value (l ∷ ls) a v pairs e = by_answer (follows l a) refl e (one_value ls a v (pairs_tail DontRefute l ls pairs))
  where
    by_answer : (answer : Option Bool) → follows l a ≡ answer → or_else answer (decided ls a) ≡ Some v
        → (decided ls a ≡ Some v → All (MayBe a v) ls) → All (MayBe a v) (l ∷ ls)
    by_answer None is rest later = All-cons (MayBe a v) l ls (inl is) (later rest)
    by_answer (Some w) is rest later =
        let here : follows l a ≡ Some v = is ∙ rest in
        All-cons (MayBe a v) l ls (inr here)
        (All-weaker (DontRefute l) (MayBe a v) (λ n apart. same_value l n a v here apart) ls (pairs_head DontRefute l ls pairs))

may_be : (ls : List Literal) (a : Atom) (v : Bool) → All (MayBe a v) ls → (decided ls a ≡ None) ⊎ (decided ls a ≡ Some v)
may_be [] a v all = inl refl
may_be (l ∷ ls) a v all =
    elim (All-head (MayBe a v) l ls all) [
      | inl none ↦ rw none (may_be ls a v (All-tail (MayBe a v) l ls all))
      | inr some ↦ rw some (inr refl)
    ]

-- The new list decides what the old one and the literal decide

answer_or_none : (x : Option Bool) → (x ≡ None) ⊎ ((v : Bool) × (x ≡ Some v))
answer_or_none None = inl refl
answer_or_none (Some v) = inr (v, refl)

-- what is made true decides no more
none_through : (l m : Literal) (a : Atom) → implies l m ≡ true → follows l a ≡ None → follows m a ≡ None
none_through l m a e none = by_answer (follows m a) refl
  where
    by_answer : (answer : Option Bool) → follows m a ≡ answer → follows m a ≡ None
    by_answer None is = is
    by_answer (Some v) is = let says = through l m a v (implied l m e) is in cc

pub decides_same : (old new : List Literal) (l : Literal) (a : Atom) → Takes old l new → AllPairs DontRefute (old ++ l ∷ [])
    → decided new a ≡ decided (old ++ l ∷ []) a
decides_same old new l a takes pairs =
    elim (answer_or_none (decided (old ++ l ∷ []) a)) [
      | inl none ↦
          let (all, here) = all_both (λ m. follows m a ≡ None) old l (all_none (old ++ l ∷ []) a none) in
          none_decided new a (all_taken (λ m. follows m a ≡ None) old new l takes all here) ∙ sym none
      | inr (v, some) ↦
          let (all, here) = all_both (MayBe a v) old l (one_value (old ++ l ∷ []) a v pairs some) in
          elim (may_be new a v (all_taken (MayBe a v) old new l takes all here)) [
            | inl none ↦
                let (each, own) = all_given (λ m. follows m a ≡ None) old new l takes (λ m e. none_through l m a e) (all_none new a none) in
                let clear = none_decided (old ++ l ∷ []) a (All-push (λ m. follows m a ≡ None) old l each own) in
                let never : Some v ≡ None = sym some ∙ clear in
                cc
            | inr same ↦ same ∙ sym some
          ]
    ]
