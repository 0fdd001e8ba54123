-- Where a branch of a search ends: at a leaf, or where nothing is left to split by.
use Rattle.std.specs.Prelude.{◌≡◌, ℕ, ◌<◌, Bool, true, false, List, length, slice_get}
use Rattle.std.specs.Prelude.{Option, Some, None, IsSome, ⊤}
use Rattle.csp_model.specs.Verdict.{is_enforce}
use Rattle.csp_model.specs.declared.policy.Policy.{Policy}
use Rattle.csp_model.specs.declared.source.Hash.{Hash}
use Rattle.csp_facts.specs.declared.atom.Atom.{Atom}
use Rattle.csp_facts.specs.declared.atom.Literal.{Literal}
use Rattle.csp_facts.specs.declared.shape.Shape.{Shape}
use Rattle.csp_formula.specs.Compiled.{policy_sentence}
use Rattle.csp_formula.specs.Surely.{surely}
use Rattle.csp_proof.specs.Accepts.{Lists, blocks, hashes_in, is_met}
use Rattle.csp_proof.specs.Pairs.{Pair}
use Rattle.csp_proof.specs.WellFormed.{IsValidNode}
use Rattle.csp_proof.specs.declared.proof.Node.{Node}
use Rattle.csp_proof.specs.declared.proof.Node.TheVariants as node
use Rattle.csp_search.specs.Answers.{ShowsNone}
use Rattle.csp_search.specs.Asking.{IsOpenName}
use Rattle.csp_search.specs.Questions.{lists_of, pair_of}
use Rattle.csp_search.specs.declared.searching.Question.{Question}
use Rattle.csp_search.specs.declared.step.Step.{Step}
use Rattle.csp_search.specs.declared.step.Step.TheVariants as step

-- Leaves

-- the node is a leaf that may stand below these literals
abbrev pub closes : Lists → Pair → List Literal → Node → Bool
closes lists pair literals (node.Split atom) = false
closes lists pair literals (node.Blocked policy) = blocks lists pair literals policy
closes lists pair literals node.Met = is_met lists pair literals

pub record IsLeaf (lists : Lists) (pair : Pair) (literals : List Literal) (leaf : Node) : Type 0 where
  pub closed : closes lists pair literals leaf ≡ true
  pub valid : IsValidNode leaf

-- no leaf may
pub record HasNoLeaf (lists : Lists) (pair : Pair) (literals : List Literal) : Type 0 where
  pub first : (policy : ℕ) → policy < length lists.first.policies → blocks lists pair literals policy ≡ false
  pub second : is_met lists pair literals ≡ false

-- What is left to split by

-- the literals decide what the policy says, where it is enforced
abbrev pub IsDecided : List Hash → Shape → List Literal → Option Policy → Type 0
IsDecided hashes kind literals None = ⊤
IsDecided hashes kind literals (Some policy) =
    is_enforce policy.disposition ≡ true → IsSome (surely literals (policy_sentence policy kind hashes))

-- of each policy of the first list, and of the pair's of the second
pub record LeavesNothing (lists : Lists) (pair : Pair) (literals : List Literal) : Type 0 where
  pub first : (policy : ℕ) → policy < length lists.first.policies
      → IsDecided (hashes_in lists) pair.shape literals (slice_get lists.first.policies policy)
  pub second : IsDecided (hashes_in lists) pair.shape literals (slice_get lists.second.policies pair.policy)

-- the policy surely has this value, where it is enforced
abbrev pub IsSurely : Bool → List Hash → Shape → List Literal → Option Policy → Type 0
IsSurely expected hashes kind literals None = ⊤
IsSurely expected hashes kind literals (Some policy) =
    is_enforce policy.disposition ≡ true
    → surely literals (policy_sentence policy kind hashes) ≡ Some expected

-- each enforced policy of the first list surely allows the checks that are left, and the pair's policy of
-- the second refuses them
pub record IsOpen (lists : Lists) (pair : Pair) (literals : List Literal) : Type 0 where
  pub first : (policy : ℕ) → policy < length lists.first.policies
      → IsSurely true (hashes_in lists) pair.shape literals (slice_get lists.first.policies policy)
  pub second :
      IsSurely false (hashes_in lists) pair.shape literals (slice_get lists.second.policies pair.policy)

-- How a search goes on from a branch

-- a leaf that may stand there, a name that is asked for and open, or a check that shows that the answer is
-- no
abbrev pub IsStep : Question → List Atom → List Literal → Step → Type 0
IsStep q names literals (step.Close leaf) = IsLeaf (lists_of q) (pair_of q) literals leaf
IsStep q names literals (step.Split name) = IsOpenName q names literals name
IsStep q names literals (step.Found asked) = ShowsNone (lists_of q) (pair_of q) asked
