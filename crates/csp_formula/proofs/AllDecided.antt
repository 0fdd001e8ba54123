-- Literals that decide each atom of a sentence decide the sentence.
use Rattle.std.proofs.Common.{◌≢◌, ◌≡◌, Bool, true, false, Option, Some, None, List, [], ◌∷◌, ◌++◌, All, refl}
use Rattle.std.proofs.lemmas.List.Elements.{All-nil, All-cons, All-head, All-tail}
use Rattle.csp_facts.specs.declared.atom.Literal.{Literal}
use Rattle.csp_formula.specs.Sentences.{Sentence, Known, Fact, Not, Both, Either}
use Rattle.csp_formula.specs.Surely.{maybe_not, maybe_and, maybe_or, surely}
use Rattle.csp_facts.specs.Follows.{decided}
use Rattle.csp_formula.specs.Values.{atoms_in}

module _ {X : Type 0} (P : X → Type 0) where
  pub All-front : (xs ys : List X) → All P (xs ++ ys) → All P xs
  All-front [] ys all = All-nil P
  All-front (x ∷ xs) ys all = All-cons P x xs (All-head P x (xs ++ ys) all) (All-front xs ys (All-tail P x (xs ++ ys) all))

  pub All-back : (xs ys : List X) → All P (xs ++ ys) → All P ys
  All-back [] ys all = all
  All-back (x ∷ xs) ys all = All-back xs ys (All-tail P x (xs ++ ys) all)

not_decided : (x : Option Bool) → x ≢ None → maybe_not x ≢ None
not_decided (Some b) h = λ (e : Some _ ≡ None). cc
not_decided None h = h

and_decided : (x y : Option Bool) → x ≢ None → y ≢ None → maybe_and x y ≢ None
and_decided (Some false) y h k = λ (e : Some false ≡ None). cc
and_decided (Some true) y h k = k
and_decided None y h k = absurd (h refl)

or_decided : (x y : Option Bool) → x ≢ None → y ≢ None → maybe_or x y ≢ None
or_decided (Some true) y h k = λ (e : Some true ≡ None). cc
or_decided (Some false) y h k = k
or_decided None y h k = absurd (h refl)

pub all_decided : (ls : List Literal) (s : Sentence) → All (λ a. decided ls a ≢ None) (atoms_in s) → surely ls s ≢ None
all_decided ls (Known b) each = λ (e : Some b ≡ None). cc
all_decided ls (Fact a) each = All-head (λ x. decided ls x ≢ None) a [] each
all_decided ls (Not x) each = not_decided (surely ls x) (all_decided ls x each)
all_decided ls (Both x y) each =
    and_decided (surely ls x) (surely ls y)
    (all_decided ls x (All-front (λ a. decided ls a ≢ None) (atoms_in x) (atoms_in y) each))
    (all_decided ls y (All-back (λ a. decided ls a ≢ None) (atoms_in x) (atoms_in y) each))
all_decided ls (Either x y) each =
    or_decided (surely ls x) (surely ls y)
    (all_decided ls x (All-front (λ a. decided ls a ≢ None) (atoms_in x) (atoms_in y) each))
    (all_decided ls y (All-back (λ a. decided ls a ≢ None) (atoms_in x) (atoms_in y) each))
