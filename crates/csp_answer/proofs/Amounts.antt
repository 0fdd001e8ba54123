-- What conjunctions one after another amount to.
use Rattle.std.proofs.Common.{◌≡◌, ◌∙◌, sym, ap, ap₂, refl, Bool, true, false, List, [], ◌∷◌, ◌++◌, map, length, Option, Some, None}
use Rattle.std.proofs.lemmas.List.{map-append}
use Rattle.std.proofs.lemmas.List.Elements.{All-append, All-cons, All-nil}
use Rattle.csp_facts.specs.declared.atom.Atom.{Atom}
use Rattle.csp_facts.specs.declared.atom.Literal.{Literal}
use Rattle.csp_formula.specs.Sentences.{Sentence, Known, Either, any_of}
use Rattle.csp_formula.specs.Surely.{surely, maybe_and, maybe_or}
use Rattle.csp_formula.proofs.Maybe.{maybe_or_assoc}
use Rattle.csp_answer.specs.Answers.{AreThere, IsAmong, SaysTheSame, conjunction_in, disjunction_in}
use Rattle.csp_answer.specs.Asking.{AmountTo}
use Rattle.csp_answer.specs.declared.conjunction.Conjunction.{Conjunction}
use Rattle.csp_answer.proofs.Adding.{or_false}
use Rattle.csp_answer.proofs.Among.{among_itself, among_joined, among_same, both_among, ended_among, first_among, joined_among, known_among}

-- The connectives in three values

pub and_always : (x : Option Bool) → maybe_and x (Some true) ≡ x
and_always (Some true) = refl
and_always (Some false) = refl
and_always None = refl

pub and_never : (x : Option Bool) → maybe_and x (Some false) ≡ Some false
and_never (Some true) = refl
and_never (Some false) = refl
and_never None = refl

-- Disjunctions

pub any_joined : (ls : List Literal) (xs ys : List Sentence) → surely ls (any_of (xs ++ ys)) ≡ maybe_or (surely ls (any_of xs)) (surely ls (any_of ys))
any_joined ls [] ys = refl
any_joined ls (x ∷ xs) ys =
    ap (maybe_or (surely ls x)) (any_joined ls xs ys) ∙ sym (maybe_or_assoc (surely ls x) (surely ls (any_of xs)) (surely ls (any_of ys)))

-- What conjunctions amount to

module _ (atoms : List Atom) where
  pub never : AmountTo atoms (Known false) []
  never = record { says = λ ls. refl; among = among_itself (Known false); there = All-nil (AreThere (length atoms)) }

  pub one : (c : Conjunction) (sentence : Sentence) → SaysTheSame (conjunction_in atoms c) sentence → IsAmong (conjunction_in atoms c) sentence → AreThere (length atoms) c
      → AmountTo atoms sentence (c ∷ [])
  one c sentence says among there = record {
    says = λ ls. or_false (surely ls (conjunction_in atoms c)) ∙ says ls;
    among = ended_among (conjunction_in atoms c) sentence false among;
    there = All-cons (AreThere (length atoms)) c [] there (All-nil (AreThere (length atoms)));
  }

  pub always : AmountTo atoms (Known true) (record { lead = None; port = None; path = None } ∷ [])
  always = one (record { lead = None; port = None; path = None }) (Known true) (λ ls. refl) (λ atom has. has) (record { lead = tt; port = tt; path = tt })

  pub joined : (x y : Sentence) (cs ds : List Conjunction) → AmountTo atoms x cs → AmountTo atoms y ds → AmountTo atoms (Either x y) (cs ++ ds)
  joined x y cs ds of_cs of_ds = record {
    says = λ ls. ap (λ s. surely ls (any_of s)) (map-append (conjunction_in atoms) cs ds)
        ∙ any_joined ls (map (conjunction_in atoms) cs) (map (conjunction_in atoms) ds) ∙ ap₂ maybe_or (of_cs.says ls) (of_ds.says ls);
    among = λ atom has. both_among (disjunction_in atoms cs) (disjunction_in atoms ds) x y of_cs.among of_ds.among atom
        (joined_among (map (conjunction_in atoms) cs) (map (conjunction_in atoms) ds) atom
        (among_same (disjunction_in atoms (cs ++ ds)) (any_of (map (conjunction_in atoms) cs ++ map (conjunction_in atoms) ds))
        (ap any_of (map-append (conjunction_in atoms) cs ds)) atom has));
    there = All-append (AreThere (length atoms)) cs ds of_cs.there of_ds.there;
  }

  pub turned_to : (x y : Sentence) (cs : List Conjunction) → AmountTo atoms x cs → SaysTheSame x y → IsAmong x y → AmountTo atoms y cs
  turned_to x y cs of_cs same among = record {
    says = λ ls. of_cs.says ls ∙ same ls;
    among = λ atom has. among atom (of_cs.among atom has);
    there = of_cs.there;
  }

  -- of what never holds nothing is left
  pub turned_to_never : (y : Sentence) → SaysTheSame (Known false) y → AmountTo atoms y []
  turned_to_never y same = turned_to (Known false) y [] never same (known_among false y)

  -- one more of a disjunction
  pub one_more : (xs : List Sentence) (x : Sentence) (cs ds : List Conjunction) → AmountTo atoms (any_of xs) cs → AmountTo atoms x ds
      → AmountTo atoms (any_of (xs ++ x ∷ [])) (cs ++ ds)
  one_more xs x cs ds of_cs of_ds =
      turned_to (Either (any_of xs) x) (any_of (xs ++ x ∷ [])) (cs ++ ds) (joined (any_of xs) x cs ds of_cs of_ds)
      (λ ls. sym (any_joined ls xs (x ∷ []) ∙ ap (maybe_or (surely ls (any_of xs))) (or_false (surely ls x))))
      (λ atom has. among_joined xs (x ∷ []) atom (both_among (any_of xs) x (any_of xs) (any_of (x ∷ [])) (among_itself (any_of xs)) (first_among x (Known false)) atom has))
