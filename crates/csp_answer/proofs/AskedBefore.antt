-- What a policy was asked is answered, also once there are more answers.
use Rattle.std.proofs.Common.{◌≡◌, subst, ℕ, List, [], ◌∷◌, ◌++◌, Option, Some, None, All}
use Rattle.std.specs.Prelude.{MatchOption, slice_get}
use Rattle.std.proofs.lemmas.List.Elements.{All-contains, All-push}
use Rattle.csp_model.specs.declared.policy.Policy.{Policy}
use Rattle.csp_model.specs.declared.source.Hash.{Hash}
use Rattle.csp_facts.specs.declared.atom.Atom.{Atom}
use Rattle.csp_facts.specs.declared.shape.Shape.{Shape}
use Rattle.csp_formula.specs.Compiled.{policy_sentence}
use Rattle.csp_formula.specs.Questions.{question_sentence}
use Rattle.csp_formula.specs.Sentences.{Sentence}
use Rattle.csp_formula.specs.declared.question.ShapeQuestion.{ShapeQuestion}
use Rattle.csp_answer.specs.Growing.{Extends, StandsAt}
use Rattle.csp_answer.specs.Naming.{ArePairs}
use Rattle.csp_answer.specs.Policies.{IsAnswerTo, SaysAt, IsAsked, IsSameAnswer}
use Rattle.csp_answer.specs.Tables.{Says}
use Rattle.csp_answer.specs.declared.answer.ShapeAnswer.{ShapeAnswer}
use Rattle.csp_answer.specs.declared.naming.PairNames.{PairNames}
use Rattle.csp_answer.specs.declared.policy.AnsweredQuestion.{AnsweredQuestion}
use Rattle.csp_answer.proofs.SameAnswer.{says_too}
use Rattle.csp_answer.proofs.SoFar.{extended}

module _ {X : Type 0} (P Q : X → Type 0) (each : (x : X) → P x → Q x) where
  found_weaker : (o : Option X) → MatchOption o ⊥ P → MatchOption o ⊥ Q
  found_weaker None h = absurd h
  found_weaker (Some x) h = each x h

  pub stands_weaker : (xs : List X) (place : ℕ) → StandsAt xs P place → StandsAt xs Q place
  stands_weaker xs place = found_weaker (slice_get xs place)

module _ (atoms : List Atom) (pairs : PairNames) (policy : Policy) where
  abbrev Answered : List ShapeAnswer → AnsweredQuestion → Type 0
  Answered answers one = StandsAt answers (IsAnswerTo atoms pairs policy one.question) one.place

  abbrev AnsweredAt : List ShapeAnswer → ShapeQuestion → ℕ → Type 0
  AnsweredAt answers question place = StandsAt answers (IsAnswerTo atoms pairs policy question) place

  pub answered_at : (answers : List ShapeAnswer) (asked : List AnsweredQuestion) (question : ShapeQuestion) (place : ℕ) → All (Answered answers) asked
      → IsAsked asked question place → AnsweredAt answers question place
  answered_at answers asked question place all is =
      let of = All-contains (Answered answers) asked is.one all is.listed in
      subst (AnsweredAt answers question) is.there (subst (λ (q : ShapeQuestion). AnsweredAt answers q is.one.place) is.same of)

  pub all_extended : (old new : List ShapeAnswer) (asked : List AnsweredQuestion) → Extends old new → All (Answered old) asked → All (Answered new) asked
  all_extended old new asked extends all k d lt = extended _ old new _ extends (all k d lt)

  pub one_more : (answers : List ShapeAnswer) (asked : List AnsweredQuestion) (question : ShapeQuestion) (place : ℕ) → All (Answered answers) asked
      → AnsweredAt answers question place → All (Answered answers) (asked ++ record { question = question; place = place } ∷ [])
  one_more answers asked question place all is = All-push (Answered answers) asked (record { question = question; place = place }) all is

  -- the answer to what is asked at a shape is that at the shape
  pub at_shape : (answers : List ShapeAnswer) (question : ShapeQuestion) (shape : Shape) (place : ℕ)
      → ((hashes : List Hash) → question_sentence policy hashes question ≡ policy_sentence policy shape hashes)
      → AnsweredAt answers question place → StandsAt answers (SaysAt atoms pairs policy shape) place
  at_shape answers question shape place same =
      stands_weaker (IsAnswerTo atoms pairs policy question) (SaysAt atoms pairs policy shape)
      (λ answer is hashes are. subst (λ (s : Sentence). Says atoms s answer) (same hashes) (is hashes are)) answers place

  -- the same answer as one that answers does so too
  pub same_answer : (answers : List ShapeAnswer) (question : ShapeQuestion) (answer : ShapeAnswer) (place : ℕ) → IsAnswerTo atoms pairs policy question answer
      → StandsAt answers (λ there. IsSameAnswer there answer) place → AnsweredAt answers question place
  same_answer answers question answer place is =
      stands_weaker (λ there. IsSameAnswer there answer) (IsAnswerTo atoms pairs policy question)
      (λ there same hashes are. says_too atoms (question_sentence policy hashes question) there answer same (is hashes are)) answers place

  pub shape_answered : (hashes : List Hash) → ArePairs atoms hashes pairs → (kind : Shape) (o : Option ShapeAnswer)
      → MatchOption o ⊥ (SaysAt atoms pairs policy kind) → MatchOption o ⊥ (Says atoms (policy_sentence policy kind hashes))
  shape_answered hashes are kind =
      found_weaker (SaysAt atoms pairs policy kind) (Says atoms (policy_sentence policy kind hashes)) (λ answer says. says hashes are)
