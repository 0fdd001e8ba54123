-- The names that a question asks for.
use Rattle.std.proofs.Common.{◌≡◌, ℕ, zero, suc, ◌<◌, ◌≤◌, inl, inr, refl, sym, ap, subst, List, [], ◌∷◌, ◌++◌, map, length, get_or, Option, Some, None, All, Contains, IfSome, IsPermutation, eqb, arith, slice_get}
use Rattle.std.specs.List.{dedup, flat_map}
use Rattle.std.proofs.lemmas.Bool.{cases_lt}
use Rattle.std.proofs.lemmas.List.{get_or-map, length-map}
use Rattle.std.proofs.lemmas.List.Elements.{All-append, All-nil, All-weaker, All-contains_itself, Contains-append_left, Contains-append_right}
use Rattle.std.proofs.lemmas.List.Filters.{All-dedup}
use Rattle.std.proofs.lemmas.List.Kept.{Contains-dedup_nat}
use Rattle.std.proofs.lemmas.List.Sorted.{All-permutation, Contains-permutation}
use Rattle.std.proofs.lemmas.Option.{slice_get_past}
use Rattle.csp_model.specs.declared.policy.Policy.{Policy}
use Rattle.csp_model.specs.declared.source.Hash.{Hash}
use Rattle.csp_facts.specs.declared.atom.Atom.{Atom}
use Rattle.csp_branch.specs.Groups.{atom_in}
use Rattle.csp_facts.specs.Numbers.{number}
use Rattle.csp_facts.specs.declared.shape.Shape.{Shape}
use Rattle.csp_formula.specs.Compiled.{policy_sentence}
use Rattle.csp_formula.specs.Sentences.{Sentence}
use Rattle.csp_formula.specs.Values.{atoms_in}
use Rattle.csp_answer.specs.Answers.{IsAnswer, names_of, sentence_in}
use Rattle.csp_answer.specs.Tables.{AreAnswers, answer_of}
use Rattle.csp_answer.specs.declared.answer.ShapeAnswer.{ShapeAnswer}
use Rattle.csp_answer.specs.declared.policy.PolicyAnswers.{PolicyAnswers}
use Rattle.csp_search.specs.Asking.{AreAsked, IsAsked, IsName, enforced_answer, first_answer, names_where, second_answer, where_enforced}
use Rattle.csp_search.specs.Questions.{IsPosed, asked_atoms, atoms_of}
use Rattle.csp_search.specs.declared.named_question.NamedQuestion.{NamedQuestion}
use Rattle.csp_search.specs.declared.searching.Question.{Question}
use Rattle.csp_search.proofs.Saying.{found_says, has_answer}

-- The names of the answers, one answer after another

-- at so many places of the first list
abbrev pub first_names : Question → ℕ → List ℕ
first_names q zero = []
first_names q (suc n) = first_names q n ++ names_where (first_answer q n)

-- at all of them, and that of the second list
abbrev pub all_names : Question → List ℕ
all_names q = first_names q (length q.lists.now.first.now.policies) ++ names_where (second_answer q)

-- The names of an answer are names of atoms that its policy's sentence speaks of

-- what is proved of an answer's names
abbrev pub AnswersSpeak : Type 0
AnswersSpeak = (atoms : List Atom) (answer : ShapeAnswer) → atoms_in (sentence_in atoms answer) ≡ map (atom_in atoms) (names_of answer)

abbrev pub NamesAreThere : Type 0
NamesAreThere = (count : ℕ) (answer : ShapeAnswer) → IsAnswer count answer → All (λ name. name < count) (names_of answer)

has_mapped : {A B : Type 0} (f : A → B) (xs : List A) → All (λ x. Contains (map f xs) (f x)) xs
has_mapped f xs k d within = (k, omega (arith, length-map xs f), get_or-map f xs k d (f (get_or xs k d)) within)

module _ (hashes : List Hash) (kind : Shape) where
  abbrev says : Policy → Sentence
  says p = policy_sentence p kind hashes

  in_policies : (policies : List Policy) (place : ℕ) (p : Policy) (atom : Atom) → slice_get policies place ≡ Some p → Contains (atoms_in (says p)) atom → Contains (flat_map atoms_in (map says policies)) atom
  in_policies [] place p atom is has = cc
  in_policies (p ∷ policies) zero q atom is has =
      let same : q ≡ p = cc in
      Contains-append_left (atoms_in (says p)) (flat_map atoms_in (map says policies)) atom (subst (λ r. Contains (atoms_in (says r)) atom) same has)
  in_policies (p ∷ policies) (suc place) q atom is has =
      Contains-append_right (atoms_in (says p)) (flat_map atoms_in (map says policies)) atom (in_policies policies place q atom is has)

module _ (speak : AnswersSpeak) (there : NamesAreThere) (q : Question) (atoms : List Atom) where
  -- where all atoms of the policies are asked for
  names_asked : (policies : List Policy) (made : List PolicyAnswers) (place : ℕ) (found : Option ShapeAnswer) → IsPosed q atoms
      → AreAnswers atoms q.lists.now.vocabulary.hashes policies made
      → ((atom : Atom) → Contains (flat_map atoms_in (map (says q.lists.now.vocabulary.hashes q.shape) policies)) atom → Contains (asked_atoms q) atom)
      → found ≡ enforced_answer policies made q.shape place → All (IsName q atoms) (names_where found)
  names_asked policies made place None posed are among same = All-nil (IsName q atoms)
  names_asked policies made place (Some answer) posed are among same =
      let hashes = q.lists.now.vocabulary.hashes in
      let has = has_answer atoms hashes q.shape policies made place posed.listed are in
      let by = found_says atoms hashes q.shape (slice_get policies place) (answer_of made place (number q.shape)) answer has same in
      λ k d within.
      let atom = atom_in atoms (get_or (names_of answer) k d) in
      let spoken : Contains (atoms_in (sentence_in atoms answer)) atom =
      subst (λ (xs : List Atom). Contains xs atom) (sym (speak atoms answer)) (has_mapped (atom_in atoms) (names_of answer) k d within) in
      record {
        there = there (length atoms) answer by.says.answer k d within;
        asked = among atom (in_policies hashes q.shape policies place by.policy atom by.is (by.says.among atom spoken));
      }

  module _ (posed : IsPosed q atoms) where
    abbrev first_atoms : List Atom
    first_atoms = atoms_of q.lists.now.vocabulary.hashes q.shape q.lists.now.first.now

    abbrev second_atoms : List Atom
    second_atoms = atoms_of q.lists.now.vocabulary.hashes q.shape q.lists.now.second.now

    first_asked : (n : ℕ) → All (IsName q atoms) (first_names q n)
    first_asked zero = All-nil (IsName q atoms)
    first_asked (suc n) =
        All-append (IsName q atoms) (first_names q n) (names_where (first_answer q n)) (first_asked n)
        (names_asked q.lists.now.first.now.policies q.lists.now.table.first n (first_answer q n) posed posed.lists.first_answers (λ atom has. Contains-append_left first_atoms second_atoms atom has) refl)

    all_asked : All (IsName q atoms) (all_names q)
    all_asked =
        All-append (IsName q atoms) (first_names q (length q.lists.now.first.now.policies)) (names_where (second_answer q)) (first_asked (length q.lists.now.first.now.policies))
        (names_asked q.lists.now.second.now.policies q.lists.now.table.second q.policy (second_answer q) posed posed.lists.second_answers (λ atom has. Contains-append_right first_atoms second_atoms atom has) refl)

-- The names of each answer are among these

abbrev AreAmong : List ℕ → List ℕ → Type 0
AreAmong names others = All (Contains others) names

more_left : (names xs ys : List ℕ) → AreAmong names xs → AreAmong names (xs ++ ys)
more_left names xs ys among = All-weaker (Contains xs) (Contains (xs ++ ys)) (λ x has. Contains-append_left xs ys x has) names among

more_right : (xs ys : List ℕ) → AreAmong ys (xs ++ ys)
more_right xs ys = All-weaker (Contains ys) (Contains (xs ++ ys)) (λ x has. Contains-append_right xs ys x has) ys (All-contains_itself ys)

first_among : (q : Question) (n place : ℕ) → place < n → AreAmong (names_where (first_answer q place)) (first_names q n)
first_among q zero place below = absurd (omega arith)
first_among q (suc n) place below = elim (cases_lt place n) [
  | inl before ↦ more_left (names_where (first_answer q place)) (first_names q n) (names_where (first_answer q n)) (first_among q n place before)
  | inr past ↦
      let last : place ≡ n = omega arith in
      rw last (more_right (first_names q n) (names_where (first_answer q n)))
]

nothing_past : (q : Question) (place : ℕ) → length q.lists.now.first.now.policies ≤ place → first_answer q place ≡ None
nothing_past q place past =
    ap (λ (p : Option Policy). where_enforced p (answer_of q.lists.now.table.first place (number q.shape))) (slice_get_past q.lists.now.first.now.policies place past)

each_among : (q : Question) (place : ℕ) → AreAmong (names_where (first_answer q place)) (all_names q)
each_among q place =
    let n = length q.lists.now.first.now.policies in
    elim (cases_lt place n) [
      | inl within ↦ more_left (names_where (first_answer q place)) (first_names q n) (names_where (second_answer q)) (first_among q n place within)
      | inr past ↦ rw (nothing_past q place past) (All-nil (Contains (first_names q n ++ names_where (second_answer q))))
    ]

second_among : (q : Question) → AreAmong (names_where (second_answer q)) (all_names q)
second_among q = more_right (first_names q (length q.lists.now.first.now.policies)) (names_where (second_answer q))

-- So it is of the same names, sorted and each once

if_there : (found : Option ShapeAnswer) (kept : List ℕ) → AreAmong (names_where found) kept → IfSome found (λ answer. All (Contains kept) (names_of answer))
if_there None kept among = tt
if_there (Some answer) kept among = among

pub are_asked : AnswersSpeak → NamesAreThere → (q : Question) (atoms : List Atom) (given sorted kept : List ℕ) → given ≡ all_names q → IsPermutation given sorted → kept ≡ dedup eqb sorted
    → IsPosed q atoms → AreAsked q atoms kept
are_asked speak there q atoms given sorted kept all moved is posed =
    let keeps : (x : ℕ) → Contains (all_names q) x → Contains kept x =
    λ x has. subst (λ (xs : List ℕ). Contains xs x) (sym is)
    (Contains-dedup_nat sorted x (Contains-permutation given sorted x moved (subst (λ (xs : List ℕ). Contains xs x) (sym all) has))) in
    let among : (found : Option ShapeAnswer) → AreAmong (names_where found) (all_names q) → IfSome found (λ answer. All (Contains kept) (names_of answer)) =
    λ found has. if_there found kept (All-weaker (Contains (all_names q)) (Contains kept) keeps (names_where found) has) in
    record {
      each = subst (All (IsName q atoms)) (sym is)
          (All-dedup eqb (IsName q atoms) sorted (All-permutation (IsName q atoms) given sorted moved (subst (All (IsName q atoms)) (sym all) (all_asked speak there q atoms posed))));
      first = λ place. among (first_answer q place) (each_among q place);
      second = among (second_answer q) (second_among q);
    }

-- a question that is posed, with such names
pub is_asked : (asked : NamedQuestion) (made : List ℕ) (atoms : List Atom) → asked.names.now ≡ made → ((xs : List Atom) → IsPosed asked.question xs → AreAsked asked.question xs made) → IsPosed asked.question atoms
    → IsAsked asked atoms
is_asked asked made atoms same each posed = record {
  posed = posed;
  names = subst (AreAsked asked.question atoms) (sym same) (each atoms posed);
}
