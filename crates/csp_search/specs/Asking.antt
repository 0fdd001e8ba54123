-- Words of private contracts, which stand here since contracts cite only specs/: the names that a question
-- asks for.
use Rattle.std.specs.Prelude.{◌≡◌, ℕ, ◌<◌, ◌≤◌, if◌then◌else◌, List, [], length, slice_get}
use Rattle.std.specs.Prelude.{Option, Some, None, All, IfSome, Contains}
use Rattle.csp_model.specs.Verdict.{is_enforce}
use Rattle.csp_model.specs.declared.policy.Policy.{Policy}
use Rattle.csp_facts.specs.Follows.{decided}
use Rattle.csp_facts.specs.declared.atom.Atom.{Atom}
use Rattle.csp_facts.specs.declared.atom.Literal.{Literal}
use Rattle.csp_branch.specs.Groups.{atom_in}
use Rattle.csp_facts.specs.Numbers.{number}
use Rattle.csp_facts.specs.declared.shape.Shape.{Shape}
use Rattle.csp_answer.specs.Answers.{names_of}
use Rattle.csp_answer.specs.Tables.{answer_of}
use Rattle.csp_answer.specs.declared.answer.ShapeAnswer.{ShapeAnswer}
use Rattle.csp_answer.specs.declared.policy.PolicyAnswers.{PolicyAnswers}
use Rattle.csp_branch.specs.Walks.{Position}
use Rattle.csp_search.specs.Branches.{IsBranch}
use Rattle.csp_search.specs.Questions.{IsPosed, asked_atoms}
use Rattle.csp_search.specs.declared.named_question.NamedQuestion.{NamedQuestion}
use Rattle.csp_search.specs.declared.searching.Question.{Question}

-- Answers

abbrev pub where_enforced : Option Policy → Option ShapeAnswer → Option ShapeAnswer
where_enforced None answer = None
where_enforced (Some policy) answer = if is_enforce policy.disposition then answer else None

-- the answer at the shape of the policy at a place, where it is enforced
abbrev pub enforced_answer : List Policy → List PolicyAnswers → Shape → ℕ → Option ShapeAnswer
enforced_answer policies answers kind place =
    where_enforced (slice_get policies place) (answer_of answers place (number kind))

abbrev pub first_answer : Question → ℕ → Option ShapeAnswer
first_answer q place = enforced_answer q.lists.now.first.now.policies q.lists.now.table.first q.shape place

abbrev pub second_answer : Question → Option ShapeAnswer
second_answer q = enforced_answer q.lists.now.second.now.policies q.lists.now.table.second q.shape q.policy

-- Names

-- those of an answer, where there is one
abbrev pub names_where : Option ShapeAnswer → List ℕ
names_where None = []
names_where (Some answer) = names_of answer

-- the atom of the name is one that the question asks for
pub record IsName (q : Question) (names : List Atom) (name : ℕ) : Type 0 where
  pub there : name < length names
  pub asked : Contains (asked_atoms q) (atom_in names name)

-- these are asked for, and all names of the enforced policies' answers are among them
pub record AreAsked (q : Question) (names : List Atom) (asked : List ℕ) : Type 0 where
  pub each : All (IsName q names) asked
  pub first : (place : ℕ) → IfSome (first_answer q place) (λ answer. All (Contains asked) (names_of answer))
  pub second : IfSome (second_answer q) (λ answer. All (Contains asked) (names_of answer))

-- the question is posed, and these are the names that it asks for
pub record IsAsked (asked : NamedQuestion) (atoms : List Atom) : Type 0 where
  pub posed : IsPosed asked.question atoms
  pub names : AreAsked asked.question atoms asked.names.now

-- the walker stands on a branch of the question, and has room for a literal on each open name
pub record StandsOn (of : NamedQuestion) (at : Position) : Type 0 where
  pub asked : IsAsked of at.atoms
  pub branch : IsBranch at.atoms (asked_atoms of.question) at.literals
  pub room : length at.atoms ≤ at.room

-- the name is asked for, and the literals leave it open
pub record IsOpenName (q : Question) (names : List Atom) (literals : List Literal) (name : ℕ) : Type 0 where
  pub is : IsName q names name
  pub undecided : decided literals (atom_in names name) ≡ None
