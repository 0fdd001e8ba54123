-- Which atoms stand in sentences: what is among another.
use Rattle.std.proofs.Common.{◌≡◌, ◌∙◌, sym, ap, subst, refl, inl, inr, Bool, false, List, [], ◌∷◌, ◌++◌, zero, suc, get_or, All, Contains, arith}
use Rattle.std.proofs.lemmas.List.{append_assoc}
use Rattle.std.proofs.lemmas.List.Elements.{All-contains, All-head, All-tail, Contains-append_cases, Contains-append_left, Contains-append_right}
use Rattle.csp_facts.specs.declared.atom.Atom.{Atom}
use Rattle.csp_formula.specs.Sentences.{Sentence, Known, Either, any_of}
use Rattle.csp_formula.specs.Values.{atoms_in}
use Rattle.csp_answer.specs.Answers.{IsAmong, conjunction_in, disjunction_in}
use Rattle.csp_answer.specs.declared.conjunction.Conjunction.{Conjunction}

-- Sentences

pub among_itself : (x : Sentence) → IsAmong x x
among_itself x atom has = has

pub among_same : (x y : Sentence) → x ≡ y → IsAmong x y
among_same x y same = subst (IsAmong x) same (among_itself x)

-- nothing stands in what is known
pub known_among : (b : Bool) (y : Sentence) → IsAmong (Known b) y
known_among b y atom has = absurd (let low = has.1 in omega (arith, low))

pub first_among : (x y : Sentence) → IsAmong x (Either x y)
first_among x y atom has = Contains-append_left (atoms_in x) (atoms_in y) atom has

pub last_among : (x y : Sentence) → IsAmong y (Either x y)
last_among x y atom has = Contains-append_right (atoms_in x) (atoms_in y) atom has

-- a disjunction is among what both its parts are among
pub either_among : (x y z : Sentence) → IsAmong x z → IsAmong y z → IsAmong (Either x y) z
either_among x y z one other atom has = elim (Contains-append_cases (atoms_in x) (atoms_in y) atom has) [
  | inl h ↦ one atom h
  | inr h ↦ other atom h
]

pub both_among : (x y z w : Sentence) → IsAmong x z → IsAmong y w → IsAmong (Either x y) (Either z w)
both_among x y z w one other =
    either_among x y (Either z w) (λ atom has. first_among z w atom (one atom has)) (λ atom has. last_among z w atom (other atom has))

-- what is known at the end adds nothing
pub ended_among : (x y : Sentence) (b : Bool) → IsAmong x y → IsAmong (Either x (Known b)) y
ended_among x y b one = either_among x (Known b) y one (known_among b y)

atoms_joined : (xs ys : List Sentence) → atoms_in (any_of (xs ++ ys)) ≡ atoms_in (any_of xs) ++ atoms_in (any_of ys)
atoms_joined [] ys = refl
atoms_joined (x ∷ xs) ys =
    ap (λ (atoms : List Atom). atoms_in x ++ atoms) (atoms_joined xs ys) ∙ sym (append_assoc (atoms_in x) (atoms_in (any_of xs)) (atoms_in (any_of ys)))

pub joined_among : (xs ys : List Sentence) → IsAmong (any_of (xs ++ ys)) (Either (any_of xs) (any_of ys))
joined_among xs ys atom has = subst (λ (atoms : List Atom). Contains atoms atom) (atoms_joined xs ys) has

pub among_joined : (xs ys : List Sentence) → IsAmong (Either (any_of xs) (any_of ys)) (any_of (xs ++ ys))
among_joined xs ys atom has = subst (λ (atoms : List Atom). Contains atoms atom) (sym (atoms_joined xs ys)) has

-- Disjunctions of conjunctions

module _ (atoms : List Atom) where
  each_among : (cs : List Conjunction) → All (λ c. IsAmong (conjunction_in atoms c) (disjunction_in atoms cs)) cs
  each_among [] k d h = absurd (omega (arith, h))
  each_among (c ∷ cs) zero d h = first_among (conjunction_in atoms c) (disjunction_in atoms cs)
  each_among (c ∷ cs) (suc k) d h =
      λ atom has. last_among (conjunction_in atoms c) (disjunction_in atoms cs) atom (each_among cs k d (omega (arith, h)) atom has)

  all_among : (cs : List Conjunction) (z : Sentence) → All (λ c. IsAmong (conjunction_in atoms c) z) cs → IsAmong (disjunction_in atoms cs) z
  all_among [] z all = known_among false z
  all_among (c ∷ cs) z all =
      either_among (conjunction_in atoms c) (disjunction_in atoms cs) z (All-head (λ d. IsAmong (conjunction_in atoms d) z) c cs all)
      (all_among cs z (All-tail (λ d. IsAmong (conjunction_in atoms d) z) c cs all))

  -- members of a disjunction
  pub members_among : (cs ds : List Conjunction) → All (Contains ds) cs → IsAmong (disjunction_in atoms cs) (disjunction_in atoms ds)
  members_among cs ds all =
      all_among cs (disjunction_in atoms ds)
      (λ k d h. All-contains (λ c. IsAmong (conjunction_in atoms c) (disjunction_in atoms ds)) ds (get_or cs k d) (each_among ds) (all k d h))
