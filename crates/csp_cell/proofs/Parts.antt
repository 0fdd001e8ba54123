-- The two parts of a cell: what they decide together, and what a literal adds to one of them.
use Rattle.std.proofs.Common.{◌≡◌, ◌∙◌, Bool, true, false, not, List, [], ◌∷◌, ◌++◌, filter, Option, Some, None, MatchOption, All, Any, refl, sym, ap, append_assoc, arith, ℕ, suc, take, drop, insert}
use Rattle.std.proofs.lemmas.List.{append-nil, take-append-drop}
use Rattle.std.proofs.lemmas.List.Elements.{All-head, All-tail, All-push, filter-append}
use Rattle.csp_facts.specs.Follows.{follows, decided, or_else}
use Rattle.csp_facts.specs.declared.atom.Atom.{Atom}
use Rattle.csp_facts.specs.declared.atom.Literal.{Literal}
use Rattle.csp_cell.specs.Cells.{implies, needed_beside, Takes, places}
use Rattle.csp_cell.specs.Inside.{IsPlacing, IsOther, Adds}
use Rattle.csp_cell.proofs.Taking.{all_insert, all_none, both_none}

pub decided_append : (xs ys : List Literal) (a : Atom) → decided (xs ++ ys) a ≡ or_else (decided xs a) (decided ys a)
decided_append [] ys a = refl
decided_append (x ∷ xs) ys a = ap (or_else (follows x a)) (decided_append xs ys a) ∙ by_answer (follows x a)
  where
    by_answer : (answer : Option Bool) → or_else answer (or_else (decided xs a) (decided ys a)) ≡ or_else (or_else answer (decided xs a)) (decided ys a)
    by_answer None = refl
    by_answer (Some v) = refl

pub both_open : (p o : List Literal) (a : Atom) → decided (p ++ o) a ≡ None → (decided p a ≡ None) × (decided o a ≡ None)
both_open p o a e = both_none (decided p a) (decided o a) (sym (decided_append p o a) ∙ e)

some_says : (ls : List Literal) (a : Atom) (v : Bool) → decided ls a ≡ Some v → Any (λ m. follows m a ≡ Some v) ls
some_says [] a v e = cc
some_says (l ∷ ls) a v e = by_answer (follows l a) refl e (some_says ls a v)
  where
    by_answer : (answer : Option Bool) → follows l a ≡ answer → or_else answer (decided ls a) ≡ Some v
        → (decided ls a ≡ Some v → Any (λ m. follows m a ≡ Some v) ls) → Any (λ m. follows m a ≡ Some v) (l ∷ ls)
    by_answer (Some w) is rest later = (0, l, omega arith, refl, is ∙ rest)
    by_answer None is rest later = let (k, m, h, at, says) = later rest in (suc k, m, omega arith, at, says)

pub answer_says : (ls : List Literal) (a : Atom) (answer : Option Bool) → answer ≡ decided ls a
    → MatchOption answer (All (λ m. follows m a ≡ None) ls) (λ v. Any (λ m. follows m a ≡ Some v) ls)
answer_says ls a None e = all_none ls a (sym e)
answer_says ls a (Some v) e = some_says ls a v (sym e)

pub adds_placing : (p o : List Literal) (l : Literal) → places l ≡ true → Adds p o l (p ++ l ∷ []) o
adds_placing p o l e = record {
  list = (p, o, refl, append_assoc p (l ∷ []) o);
  first = λ all. All-push IsPlacing p l all e;
  second = λ all. all;
}

pub adds_inserted : (p o : List Literal) (l : Literal) (place : ℕ) → places l ≡ false → Adds p o l p (insert o place l)
adds_inserted p o l place e = record {
  list = (
    p ++ take place o,
    drop place o,
    append_assoc p (take place o) (drop place o) ∙ ap (λ rest. p ++ rest) (take-append-drop place o),
    sym (append_assoc p (take place o) (l ∷ drop place o)),
  );
  first = λ all. all;
  second = λ all. all_insert IsOther (take place o) (drop place o) l (rw (take-append-drop place o) all) e;
}

pub takes_added : (l : Literal) (p o new_p new_o : List Literal) → Adds (needed_beside l p) (needed_beside l o) l new_p new_o
    → Takes (p ++ o) l (new_p ++ new_o)
takes_added l p o new_p new_o adds =
    let (front, back, rest, list) = adds.list in
    (front, back, rest ∙ sym (filter-append (λ other. not (implies l other)) p o), list)

-- Each part is what its test leaves

pub all_pass : (p : Literal → Bool) (ls : List Literal) → All (λ m. p m ≡ true) ls → filter p ls ≡ ls
all_pass p [] all = refl
all_pass p (l ∷ ls) all = rw (All-head (λ m. p m ≡ true) l ls all) (ap (λ rest. l ∷ rest) (all_pass p ls (All-tail (λ m. p m ≡ true) l ls all)))

none_pass : (p : Literal → Bool) (ls : List Literal) → All (λ m. p m ≡ false) ls → filter p ls ≡ []
none_pass p [] all = refl
none_pass p (l ∷ ls) all = rw (All-head (λ m. p m ≡ false) l ls all) (none_pass p ls (All-tail (λ m. p m ≡ false) l ls all))

pub placing_of : (p o : List Literal) → All IsPlacing p → All IsOther o → p ≡ filter places (p ++ o)
placing_of p o first second =
    sym (filter-append places p o ∙ ap (λ rest. filter places p ++ rest) (none_pass places o second) ∙ append-nil (filter places p) ∙ all_pass places p first)

pub others_of : (p o : List Literal) → All IsPlacing p → All IsOther o → o ≡ filter (λ literal. not (places literal)) (p ++ o)
others_of p o first second =
    let unplaced : Literal → Bool = λ literal. not (places literal) in
    sym (filter-append unplaced p o
    ∙ ap (λ rest. rest ++ filter unplaced o) (none_pass unplaced p (λ k d h. ap not (first k d h)))
    ∙ all_pass unplaced o (λ k d h. ap not (second k d h)))
