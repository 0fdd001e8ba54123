-- The answers of one policy, and what it was asked for them.
use Rattle.std.specs.Prelude.{◌≡◌, ⊤, ℕ, List, Option, Some, None, All, Contains, slice_get}
use Rattle.csp_model.specs.declared.policy.Policy.{Policy}
use Rattle.csp_model.specs.declared.source.Hash.{Hash}
use Rattle.csp_facts.specs.declared.atom.Atom.{Atom}
use Rattle.csp_facts.specs.declared.shape.Shape.{Shape}
use Rattle.csp_formula.specs.Compiled.{policy_sentence}
use Rattle.csp_formula.specs.Questions.{question_sentence}
use Rattle.csp_formula.specs.declared.question.ShapeQuestion.{ShapeQuestion}
use Rattle.csp_answer.specs.Growing.{StandsAt}
use Rattle.csp_answer.specs.Naming.{ArePairs}
use Rattle.csp_answer.specs.Tables.{Says}
use Rattle.csp_answer.specs.declared.answer.ShapeAnswer.{ShapeAnswer}
use Rattle.csp_answer.specs.declared.answer.Integrity.{Integrity}
use Rattle.csp_answer.specs.declared.naming.PairNames.{PairNames}
use Rattle.csp_answer.specs.declared.policy.Answered.{Answered}
use Rattle.csp_answer.specs.declared.policy.AnsweredQuestion.{AnsweredQuestion}
use Rattle.csp_answer.specs.declared.policy.PolicyAnswers.{PolicyAnswers}

-- the place of the answer at the shape of this number
abbrev pub place_at : ℕ → PolicyAnswers → Option ℕ
place_at shape answers = slice_get answers.places shape

-- the answer is that to the question, by the names of the vocabulary's pairs
abbrev pub IsAnswerTo : List Atom → PairNames → Policy → ShapeQuestion → ShapeAnswer → Type 0
IsAnswerTo atoms pairs policy question answer =
    (hashes : List Hash) → ArePairs atoms hashes pairs
    → Says atoms (question_sentence policy hashes question) answer

-- it is that at the shape
abbrev pub SaysAt : List Atom → PairNames → Policy → Shape → ShapeAnswer → Type 0
SaysAt atoms pairs policy kind answer =
    (hashes : List Hash) → ArePairs atoms hashes pairs
    → Says atoms (policy_sentence policy kind hashes) answer

-- the same rule on integrity metadata
abbrev pub IsSameIntegrity : Option Integrity → Option Integrity → Type 0
IsSameIntegrity None None = ⊤
IsSameIntegrity (Some i) (Some j) =
    (i.outside ≡ j.outside) × (i.others.items ≡ j.others.items) × (i.own.items ≡ j.own.items)
IsSameIntegrity one other = ⊥

-- the same conjunctions and the same rule
pub record IsSameAnswer (one other : ShapeAnswer) : Type 0 where
  pub conjunctions : one.conjunctions.items ≡ other.conjunctions.items
  pub integrity : IsSameIntegrity one.integrity other.integrity

-- at the place of each question so far stands its answer
abbrev pub AllAnswered : List Atom → PairNames → Policy → Answered → Type 0
AllAnswered atoms pairs policy answered =
    All (λ (one : AnsweredQuestion). StandsAt answered.answers (IsAnswerTo atoms pairs policy one.question) one.place)
    answered.asked

-- the question is one of these, at this place
pub record IsAsked (asked : List AnsweredQuestion) (question : ShapeQuestion) (place : ℕ) : Type 0 where
  pub one : AnsweredQuestion
  pub listed : Contains asked one
  pub same : one.question ≡ question
  pub there : one.place ≡ place
