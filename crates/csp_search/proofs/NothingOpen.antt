-- Literals that decide each name that is asked for leave nothing to split by.
use Rattle.std.proofs.Common.{◌≡◌, ◌≢◌, refl, sym, subst, ℕ, Bool, List, map, Option, Some, None, All, Contains, IfSome, IsSome, slice_get}
use Rattle.std.proofs.lemmas.List.Elements.{All-contains, All-map, All-weaker}
use Rattle.csp_facts.specs.Follows.{decided}
use Rattle.csp_facts.specs.declared.atom.Atom.{Atom}
use Rattle.csp_facts.specs.declared.atom.Literal.{Literal}
use Rattle.csp_branch.specs.Groups.{atom_in}
use Rattle.csp_formula.specs.Sentences.{Sentence}
use Rattle.csp_formula.specs.Surely.{surely}
use Rattle.csp_formula.specs.Values.{atoms_in}
use Rattle.csp_answer.specs.Answers.{names_of, sentence_in}
use Rattle.csp_answer.specs.declared.answer.ShapeAnswer.{ShapeAnswer}
use Rattle.csp_proof.specs.Accepts.{hashes_in}
use Rattle.csp_search.specs.Asking.{AreAsked, first_answer, second_answer}
use Rattle.csp_search.specs.Leaves.{IsDecided, LeavesNothing}
use Rattle.csp_search.specs.Questions.{IsPosed, lists_of, pair_of}
use Rattle.csp_search.specs.declared.searching.Question.{Question}
use Rattle.csp_search.proofs.Saying.{first_silent, first_tells, second_silent, second_tells}

some_of : (o : Option Bool) → o ≢ None → IsSome o
some_of (Some b) known = refl
some_of None known = absurd (known refl)

-- what is proved of the atoms of an answer, and of literals that decide each atom of a sentence
abbrev pub AnswersSpeak : Type 0
AnswersSpeak = (atoms : List Atom) (answer : ShapeAnswer) → atoms_in (sentence_in atoms answer) ≡ map (atom_in atoms) (names_of answer)

abbrev pub LiteralsDecide : Type 0
LiteralsDecide = (literals : List Literal) (sentence : Sentence) → All (λ (a : Atom). decided literals a ≢ None) (atoms_in sentence) → surely literals sentence ≢ None

module _ (speaks : AnswersSpeak) (decides : LiteralsDecide) (q : Question) (names : List Atom) (literals : List Literal) (asked : List ℕ) (posed : IsPosed q names)
    (are : AreAsked q names asked) (known : All (λ name. decided literals (atom_in names name) ≢ None) asked) where
  abbrev IsKnown : Atom → Type 0
  IsKnown a = decided literals a ≢ None

  abbrev AreAmong : ShapeAnswer → Type 0
  AreAmong answer = All (Contains asked) (names_of answer)

  answer_known : (answer : ShapeAnswer) → AreAmong answer → IsSome (surely literals (sentence_in names answer))
  answer_known answer among =
      let IsKnownName = λ (name : ℕ). IsKnown (atom_in names name) in
      let named = All-weaker (Contains asked) IsKnownName (λ name has. All-contains IsKnownName asked name known has) (names_of answer) among in
      let each = subst (λ (atoms : List Atom). All IsKnown atoms) (sym (speaks names answer)) (All-map IsKnown (atom_in names) (names_of answer) named) in
      some_of (surely literals (sentence_in names answer)) (decides literals (sentence_in names answer) each)

  first_known : (place : ℕ) → IsDecided (hashes_in (lists_of q)) q.shape literals (slice_get q.lists.now.first.now.policies place)
  first_known place = by (first_answer q place) refl (are.first place) where
    by : (o : Option ShapeAnswer) → o ≡ first_answer q place → IfSome o AreAmong → IsDecided (hashes_in (lists_of q)) q.shape literals (slice_get q.lists.now.first.now.policies place)
    by None same among = (first_silent q names literals posed place same).decided
    by (Some answer) same among = (first_tells q names literals posed place answer same).decided (answer_known answer among)

  second_known : IsDecided (hashes_in (lists_of q)) q.shape literals (slice_get q.lists.now.second.now.policies q.policy)
  second_known = by (second_answer q) refl are.second where
    by : (o : Option ShapeAnswer) → o ≡ second_answer q → IfSome o AreAmong → IsDecided (hashes_in (lists_of q)) q.shape literals (slice_get q.lists.now.second.now.policies q.policy)
    by None same among = (second_silent q names literals posed same).decided
    by (Some answer) same among = (second_tells q names literals posed answer same).decided (answer_known answer among)

  pub leaves_nothing : LeavesNothing (lists_of q) (pair_of q) literals
  leaves_nothing = record { first = λ place within. first_known place; second = second_known }
