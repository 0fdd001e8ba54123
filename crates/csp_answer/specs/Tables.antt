-- What the policies of two lists answer at each shape.
use Rattle.std.specs.Prelude.{◌≡◌, ℕ, List, length, map, Option, Some, MatchOption, IsSome, IsTrue, slice_get}
use Rattle.std.specs.Option.{option_and_then}
use Rattle.csp_model.specs.declared.policy.Policy.{Policy}
use Rattle.csp_model.specs.declared.source.Hash.{Hash}
use Rattle.csp_facts.specs.declared.atom.Atom.{Atom}
use Rattle.csp_facts.specs.Numbers.{number}
use Rattle.csp_facts.specs.Shapes.{is_shape}
use Rattle.csp_facts.specs.declared.shape.Shape.{Shape}
use Rattle.csp_formula.specs.Compiled.{policy_sentence}
use Rattle.csp_formula.specs.Sentences.{Sentence}
use Rattle.csp_answer.specs.Answers.{IsAmong, IsAnswer, SaysTheSame, sentence_in}
use Rattle.csp_answer.specs.declared.answer.ShapeAnswer.{ShapeAnswer}
use Rattle.csp_answer.specs.declared.policy.PolicyAnswers.{PolicyAnswers}
use Rattle.csp_answer.specs.declared.table.AnswerTable.{AnswerTable}

-- the answer at the shape of this number
abbrev pub answer_at : ℕ → PolicyAnswers → Option ShapeAnswer
answer_at shape answers = option_and_then (slice_get answers.answers) (slice_get answers.places shape)

-- the answer says this, by these names, and speaks of no other atoms
pub record Says (atoms : List Atom) (sentence : Sentence) (made : ShapeAnswer) : Type 0 where
  pub answer : IsAnswer (length atoms) made
  pub says : SaysTheSame (sentence_in atoms made) sentence
  pub among : IsAmong (sentence_in atoms made) sentence

-- what the policy says of each shape, by the shape's number
abbrev pub IsAnswered : List Atom → List Hash → Policy → PolicyAnswers → Type 0
IsAnswered atoms hashes policy answers = (kind : Shape) → IsTrue (is_shape kind)
    → MatchOption (answer_at (number kind) answers) ⊥ (Says atoms (policy_sentence policy kind hashes))

-- what the policy of this number answers at the shape of this number
abbrev pub answer_of : List PolicyAnswers → ℕ → ℕ → Option ShapeAnswer
answer_of each policy shape = option_and_then (answer_at shape) (slice_get each policy)

-- so it is of each of the policies, in order
pub record AreAnswers (atoms : List Atom) (hashes : List Hash) (policies : List Policy)
    (made : List PolicyAnswers) : Type 0 where
  pub long : length made ≡ length policies
  pub each : (n : ℕ) (policy : Policy) (answers : PolicyAnswers) → slice_get policies n ≡ Some policy
      → slice_get made n ≡ Some answers → IsAnswered atoms hashes policy answers

-- each policy of both lists answers the same at two shapes of these numbers
abbrev pub AnswerTheSame : List PolicyAnswers → List PolicyAnswers → ℕ → ℕ → Type 0
AnswerTheSame first second one other = (map (answer_at one) first ≡ map (answer_at other) first)
    × (map (answer_at one) second ≡ map (answer_at other) second)

-- so it is at shapes of one kind
pub record AreKinds (table : AnswerTable) : Type 0 where
  pub there : (kind : Shape) → IsTrue (is_shape kind) → IsSome (slice_get table.kinds (number kind))
  pub same : (one other : ℕ) (kind : ℕ) → slice_get table.kinds one ≡ Some kind
      → slice_get table.kinds other ≡ Some kind → AnswerTheSame table.first table.second one other
