-- The rules of leaves: by the definition, and by the answers of a table.
use Rattle.std.specs.Prelude.{ℕ, ◌&&◌, Bool, true, false, List, Option, Some, None, IfSome, slice_get}
use Rattle.std.specs.Option.{option_and_then}
use Rattle.csp_model.specs.Verdict.{is_enforce}
use Rattle.csp_model.specs.declared.policy.Policy.{Policy}
use Rattle.csp_facts.specs.declared.atom.Atom.{Atom}
use Rattle.csp_facts.specs.declared.atom.Literal.{Literal}
use Rattle.csp_formula.specs.Surely.{surely}
use Rattle.csp_answer.specs.Answers.{IsAnswer, sentence_in}
use Rattle.csp_answer.specs.Tables.{answer_of}
use Rattle.csp_answer.specs.declared.answer.ShapeAnswer.{ShapeAnswer}
use Rattle.csp_answer.specs.declared.policy.PolicyAnswers.{PolicyAnswers}
use Rattle.csp_proof.specs.Accepts.{Lists, blocks, is_met, is_surely}
use Rattle.csp_proof.specs.Pairs.{Pair}
use Rattle.csp_proof.specs.declared.proof.Node.{Node}
use Rattle.csp_proof.specs.declared.proof.Node.TheVariants as node
use Rattle.csp_proof.specs.declared.proof.Tree.{Tree}
use Rattle.csp_checker.specs.declared.prepared_claim.PreparedClaim.{PreparedClaim}

-- By the definition, for a pair. A split has no rule to keep.

abbrev pub rule_for : Lists → Pair → List Literal → Node → Bool
rule_for lists pair literals (node.Split atom) = true
rule_for lists pair literals (node.Blocked policy) = blocks lists pair literals policy
rule_for lists pair literals node.Met = is_met lists pair literals

-- By answers over the names of these atoms, for a tree

-- there is a policy, which is enforced
abbrev pub is_enforced : Option Policy → Bool
is_enforced (Some policy) = is_enforce policy.disposition
is_enforced None = false

-- what is decided of what the policy of this number answers at the shape of that number
abbrev pub known : List Atom → List Literal → List PolicyAnswers → ℕ → ℕ → Option Bool
known atoms literals answers policy shape =
    option_and_then (λ (answer : ShapeAnswer). surely literals (sentence_in atoms answer))
    (answer_of answers policy shape)

abbrev pub rule_by : List Atom → PreparedClaim → Tree → List Literal → Node → Bool
rule_by atoms asked tree literals (node.Split atom) = true
rule_by atoms asked tree literals (node.Blocked policy) =
    is_enforced (slice_get asked.first.now.policies policy)
    && is_surely false (known atoms literals asked.table.first policy tree.shape)
rule_by atoms asked tree literals node.Met =
    is_enforced (slice_get asked.second.now.policies tree.policy)
    && is_surely true (known atoms literals asked.table.second tree.policy tree.shape)

-- each policy that answers at the shape of this number answers by so many names
abbrev pub AnswerAt : ℕ → ℕ → List PolicyAnswers → Type 0
AnswerAt count shape answers = (policy : ℕ) → IfSome (answer_of answers policy shape) (IsAnswer count)
