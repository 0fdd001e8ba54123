-- What a policy answers says what the policy's sentence says.
use Rattle.std.proofs.Common.{◌≡◌, ℕ, zero, suc, Bool, true, false, not, ◌&&◌, refl, ap, subst, List, [], ◌∷◌, length, Option, Some, None, IsSome, IsTrue, MatchOption, arith, slice_get}
use Rattle.std.specs.Prelude.{if◌then◌else◌, ⊤}
use Rattle.csp_model.specs.Verdict.{is_enforce}
use Rattle.csp_model.specs.declared.policy.Policy.{Policy}
use Rattle.csp_model.specs.declared.source.Hash.{Hash}
use Rattle.csp_facts.specs.declared.atom.Atom.{Atom}
use Rattle.csp_facts.specs.declared.atom.Literal.{Literal}
use Rattle.csp_facts.specs.Numbers.{number}
use Rattle.csp_facts.specs.Shapes.{is_shape}
use Rattle.csp_facts.specs.declared.shape.Shape.{Shape}
use Rattle.csp_formula.specs.Compiled.{policy_sentence}
use Rattle.csp_formula.specs.Surely.{surely}
use Rattle.csp_answer.specs.Answers.{IsAnswer, sentence_in}
use Rattle.csp_answer.specs.Tables.{AreAnswers, Says, answer_of}
use Rattle.csp_answer.specs.declared.answer.ShapeAnswer.{ShapeAnswer}
use Rattle.csp_answer.specs.declared.policy.PolicyAnswers.{PolicyAnswers}
use Rattle.csp_proof.specs.Accepts.{hashes_in, is_surely, policy_is, Lists}
use Rattle.csp_proof.specs.Pairs.{Pair}
use Rattle.csp_search.specs.Asking.{first_answer, second_answer, where_enforced}
use Rattle.csp_search.specs.Leaves.{IsDecided, IsSurely, HasNoLeaf, LeavesNothing, IsOpen}
use Rattle.csp_search.specs.Questions.{IsPosed, lists_of}
use Rattle.csp_search.specs.declared.searching.Question.{Question}

module _ (atoms : List Atom) (hashes : List Hash) (kind : Shape) where
  -- where there is a policy it has an answer, which says what it says
  abbrev pub HasAnswer : Option Policy → Option ShapeAnswer → Type 0
  HasAnswer None answer = ⊤
  HasAnswer (Some policy) answer = MatchOption answer ⊥ (Says atoms (policy_sentence policy kind hashes))

  answer_at_place : (policies : List Policy) (made : List PolicyAnswers) (place : ℕ) → length made ≡ length policies
      → ((n : ℕ) (p : Policy) (a : PolicyAnswers) → slice_get policies n ≡ Some p → slice_get made n ≡ Some a → MatchOption (answer_of (a ∷ []) 0 (number kind)) ⊥ (Says atoms (policy_sentence p kind hashes)))
      → HasAnswer (slice_get policies place) (answer_of made place (number kind))
  answer_at_place [] made place long each = tt
  answer_at_place (p ∷ policies) [] place long each = absurd (omega arith)
  answer_at_place (p ∷ policies) (a ∷ made) zero long each = each 0 p a refl refl
  answer_at_place (p ∷ policies) (a ∷ made) (suc place) long each =
      answer_at_place policies made place (omega arith) (λ n q b one two. each (suc n) q b one two)

  pub has_answer : (policies : List Policy) (made : List PolicyAnswers) (place : ℕ) → IsTrue (is_shape kind) → AreAnswers atoms hashes policies made
      → HasAnswer (slice_get policies place) (answer_of made place (number kind))
  has_answer policies made place listed are =
      answer_at_place policies made place are.long (λ n p a one two. are.each n p a one two kind listed)

  -- the policy is there and enforced, and the answer says what it says
  pub record IsSaid (asked : Option Policy) (found : ShapeAnswer) : Type 0 where
    pub policy : Policy
    pub is : asked ≡ Some policy
    pub enforced : is_enforce policy.disposition ≡ true
    pub says : Says atoms (policy_sentence policy kind hashes) found

  same_answer : (answer found : ShapeAnswer) → Some found ≡ Some answer → answer ≡ found
  same_answer answer found same = cc

  pub found_says : (asked : Option Policy) (answer : Option ShapeAnswer) (found : ShapeAnswer) → HasAnswer asked answer → Some found ≡ where_enforced asked answer → IsSaid asked found
  found_says None answer found has same = cc
  found_says (Some p) None found has same = absurd has
  found_says (Some p) (Some answer) found has same = by (is_enforce p.disposition) refl same where
    by : (enforced : Bool) → is_enforce p.disposition ≡ enforced → Some found ≡ (if enforced then Some answer else None) → IsSaid (Some p) found
    by false is same = cc
    by true is same = record { policy = p; is = refl; enforced = is; says = subst (Says atoms (policy_sentence p kind hashes)) (same_answer answer found same) has }

  module _ (literals : List Literal) where
    -- the answer is one, and tells the value of the policy
    pub record Tells (asked : Option Policy) (found : ShapeAnswer) : Type 0 where
      pub named : IsAnswer (length atoms) found
      pub value : (expected : Bool) → is_surely expected (surely literals (sentence_in atoms found)) ≡ policy_is expected hashes kind literals asked
      pub decided : IsSome (surely literals (sentence_in atoms found)) → IsDecided hashes kind literals asked

    found_tells : (asked : Option Policy) (found : ShapeAnswer) → IsSaid asked found → Tells asked found
    found_tells asked found said = record {
      named = said.says.answer;
      value = λ expected. rw (said.is, said.enforced) (ap (is_surely expected) (said.says.says literals));
      decided = λ known. rw said.is (λ enforced. subst (λ (o : Option Bool). IsSome o) (said.says.says literals) known);
    }

    -- a policy with no enforced answer isn't enforced
    pub record SaysNothing (policy : Option Policy) : Type 0 where
      pub value : (expected : Bool) → policy_is expected hashes kind literals policy ≡ false
      pub decided : IsDecided hashes kind literals policy

    none_says : (enforced : Bool) (p : Policy) (answer : ShapeAnswer) → is_enforce p.disposition ≡ enforced → None ≡ (if enforced then Some answer else None) → SaysNothing (Some p)
    none_says true p answer is same = cc
    none_says false p answer is same = record {
      value = λ expected. rw is refl;
      decided = λ enforced. cc;
    }

    none_tells : (policy : Option Policy) (answer : Option ShapeAnswer) → HasAnswer policy answer → None ≡ where_enforced policy answer → SaysNothing policy
    none_tells None answer has same = record { value = λ expected. refl; decided = tt }
    none_tells (Some p) None has same = absurd has
    none_tells (Some p) (Some answer) has same = none_says (is_enforce p.disposition) p answer refl same

-- The answers of a question say what its policies say

first_has : (q : Question) (atoms : List Atom) (place : ℕ) → IsPosed q atoms
    → HasAnswer atoms (hashes_in (lists_of q)) q.shape (slice_get q.lists.now.first.now.policies place) (answer_of q.lists.now.table.first place (number q.shape))
first_has q atoms place posed =
    has_answer atoms (hashes_in (lists_of q)) q.shape q.lists.now.first.now.policies q.lists.now.table.first place posed.listed
    (subst (λ (hs : List Hash). AreAnswers atoms hs q.lists.now.first.now.policies q.lists.now.table.first) posed.lists.hashes posed.lists.first_answers)

second_has : (q : Question) (atoms : List Atom) → IsPosed q atoms
    → HasAnswer atoms (hashes_in (lists_of q)) q.shape (slice_get q.lists.now.second.now.policies q.policy) (answer_of q.lists.now.table.second q.policy (number q.shape))
second_has q atoms posed =
    has_answer atoms (hashes_in (lists_of q)) q.shape q.lists.now.second.now.policies q.lists.now.table.second q.policy posed.listed
    (subst (λ (hs : List Hash). AreAnswers atoms hs q.lists.now.second.now.policies q.lists.now.table.second) posed.lists.hashes posed.lists.second_answers)

module _ (q : Question) (atoms : List Atom) (literals : List Literal) (posed : IsPosed q atoms) where
  pub first_tells : (place : ℕ) (found : ShapeAnswer) → Some found ≡ first_answer q place
      → Tells atoms (hashes_in (lists_of q)) q.shape literals (slice_get q.lists.now.first.now.policies place) found
  first_tells place found same =
      let policy = slice_get q.lists.now.first.now.policies place in
      found_tells atoms (hashes_in (lists_of q)) q.shape literals policy found
      (found_says atoms (hashes_in (lists_of q)) q.shape policy (answer_of q.lists.now.table.first place (number q.shape)) found (first_has q atoms place posed) same)

  pub first_silent : (place : ℕ) → None ≡ first_answer q place → SaysNothing atoms (hashes_in (lists_of q)) q.shape literals (slice_get q.lists.now.first.now.policies place)
  first_silent place same =
      none_tells atoms (hashes_in (lists_of q)) q.shape literals (slice_get q.lists.now.first.now.policies place) (answer_of q.lists.now.table.first place (number q.shape)) (first_has q atoms place posed) same

  pub second_tells : (found : ShapeAnswer) → Some found ≡ second_answer q
      → Tells atoms (hashes_in (lists_of q)) q.shape literals (slice_get q.lists.now.second.now.policies q.policy) found
  second_tells found same =
      let policy = slice_get q.lists.now.second.now.policies q.policy in
      found_tells atoms (hashes_in (lists_of q)) q.shape literals policy found
      (found_says atoms (hashes_in (lists_of q)) q.shape policy (answer_of q.lists.now.table.second q.policy (number q.shape)) found (second_has q atoms posed) same)

  pub second_silent : None ≡ second_answer q → SaysNothing atoms (hashes_in (lists_of q)) q.shape literals (slice_get q.lists.now.second.now.policies q.policy)
  second_silent same =
      none_tells atoms (hashes_in (lists_of q)) q.shape literals (slice_get q.lists.now.second.now.policies q.policy) (answer_of q.lists.now.table.second q.policy (number q.shape)) (second_has q atoms posed) same

-- what holds where it is decided holds where something is known
pub decided_tells : {P : Type 0} (known said : Option Bool) → known ≡ said → (IsSome said → P) → MatchOption known ⊤ (λ _. P)
decided_tells None said is turn = tt
decided_tells (Some value) None is turn = cc
decided_tells (Some value) (Some other) is turn = turn refl

-- What is decided and hasn't the one value has the other

other_value : (wanted : Bool) (o : Option Bool) → IsSome o → is_surely (not wanted) o ≡ false → o ≡ Some wanted
other_value true (Some true) some other = refl
other_value false (Some false) some other = refl
other_value true (Some false) some other = cc
other_value false (Some true) some other = cc
other_value wanted None some other = cc

second_false : (a b : Bool) → a ≡ true → (a && b) ≡ false → b ≡ false
second_false true b is fails = fails
second_false false b is fails = cc

surely_other : (wanted : Bool) (hashes : List Hash) (kind : Shape) (literals : List Literal) (o : Option Policy)
    → policy_is (not wanted) hashes kind literals o ≡ false → IsDecided hashes kind literals o → IsSurely wanted hashes kind literals o
surely_other wanted hashes kind literals None fails known = tt
surely_other wanted hashes kind literals (Some p) fails known = λ enforced.
    let s = surely literals (policy_sentence p kind hashes) in
    other_value wanted s (known enforced) (second_false (is_enforce p.disposition) (is_surely (not wanted) s) enforced fails)

-- where no leaf may stand and nothing is left to split by
pub leaves_open : (lists : Lists) (pair : Pair) (literals : List Literal) → HasNoLeaf lists pair literals → LeavesNothing lists pair literals → IsOpen lists pair literals
leaves_open lists pair literals none nothing = record {
  first = λ policy within. surely_other true (hashes_in lists) pair.shape literals (slice_get lists.first.policies policy) (none.first policy within) (nothing.first policy within);
  second = surely_other false (hashes_in lists) pair.shape literals (slice_get lists.second.policies pair.policy) none.second nothing.second;
}
