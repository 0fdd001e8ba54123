-- What a checker knows of its claim before it walks, and what it keeps on the way.
use Rattle.std.specs.Prelude.{◌≡◌, ℕ, ◌+◌, ◌<◌, ◌^◌, ◌&&◌, nat_eq, Bool, List, map, Option, Some, None, IsTrue, All, slice_get}
use Rattle.csp_model.specs.declared.policy.Policy.{Policy}
use Rattle.csp_model.specs.declared.policy.PolicyList.{PolicyList}
use Rattle.csp_model.specs.declared.source.Hash.{Hash}
use Rattle.csp_facts.specs.Numbers.{number}
use Rattle.csp_facts.specs.Shapes.{is_shape}
use Rattle.csp_facts.specs.declared.shape.Shape.{Shape}
use Rattle.csp_formula.specs.Compiled.{policy_sentence}
use Rattle.csp_answer.specs.Answers.{SaysTheSame}
use Rattle.csp_answer.specs.Tables.{AreAnswers}
use Rattle.csp_answer.specs.declared.table.AnswerTable.{AnswerTable}
use Rattle.csp_proof.specs.Accepts.{Lists, hashes_in, is_for, for_pair, bad_body, bad_from, bad_tree, cases_in}
use Rattle.csp_proof.specs.Pairs.{Pair, pairs}
use Rattle.csp_proof.specs.WellFormed.{IsWellFormed}
use Rattle.csp_proof.specs.declared.proof.Body.TheVariants as body
use Rattle.csp_proof.specs.declared.proof.Node.{Node}
use Rattle.csp_proof.specs.declared.proof.Tree.{Tree}
use Rattle.csp_branch.specs.Walks.{Position}
use Rattle.csp_checker.specs.Walk.{Takes, atoms_below, is_unmet_below}
use Rattle.csp_checker.specs.declared.prepared_claim.PreparedClaim.{PreparedClaim}
use Rattle.csp_checker.specs.declared.prepared_claim.NumberedPair.{NumberedPair}

-- a pair, with its shape's number
abbrev pub numbered : Pair → NumberedPair
numbered pair = record { shape = number pair.shape; policy = pair.policy }

-- the pairs that a proof has to show
unfoldable pub due : PolicyList → List Pair
due second = pairs second

abbrev pub lists_of : PreparedClaim → Lists
lists_of asked = record { first = asked.first.now; second = asked.second.now }

abbrev pub trees_of : PreparedClaim → List Tree
trees_of asked = asked.proof.now.trees

-- whatever literals there are, they decide the same of what each of these policies says of both shapes
abbrev pub SayTheSame : List Hash → Shape → Shape → List Policy → Type 0
SayTheSame hashes one other policies =
    All (λ (p : Policy). SaysTheSame (policy_sentence p one hashes) (policy_sentence p other hashes)) policies

-- at shapes of one kind each policy says the same
abbrev pub AreAlike : Lists → AnswerTable → Type 0
AreAlike lists table = (one other : Shape) → IsTrue (is_shape one) → IsTrue (is_shape other)
    → slice_get table.kinds (number one) ≡ slice_get table.kinds (number other)
    → SayTheSame (hashes_in lists) one other lists.first.policies
    × SayTheSame (hashes_in lists) one other lists.second.policies

-- everything that is kept beside the claim belongs to it
pub record IsAsked (asked : PreparedClaim) : Type 0 where
  pub formed : IsWellFormed asked.proof.now
  pub lines : asked.proof.now.last_line < 2 ^ 128
  pub alike : AreAlike (lists_of asked) asked.table
  pub pairs : asked.pairs.items ≡ map numbered (due asked.second.now)
  pub unmet : asked.unmet.items ≡ map (λ (tree : Tree). is_unmet_below tree.body) (trees_of asked)

-- the walker is one for the trees, wherever it stands: the table answers by its names, and it can take the
-- splits of each tree
pub record Fits (asked : PreparedClaim) (walker : Position) : Type 0 where
  pub first : AreAnswers walker.atoms (hashes_in (lists_of asked)) asked.first.now.policies asked.table.first
  pub second : AreAnswers walker.atoms (hashes_in (lists_of asked)) asked.second.now.policies
      asked.table.second
  pub trees : All (λ (tree : Tree). Takes walker (atoms_below tree.body)) (trees_of asked)

-- the tree is for the pair of these numbers
abbrev pub numbers_fit : NumberedPair → Tree → Bool
numbers_fit pair tree = nat_eq pair.shape tree.shape && nat_eq pair.policy tree.policy

-- the tree is for the pair, by the numbers of both
pub record IsFor (pair : Pair) (tree : Tree) : Type 0 where
  pub listed : IsTrue (is_shape pair.shape)
  pub shape : number pair.shape ≡ tree.shape
  pub policy : pair.policy ≡ tree.policy

-- the line of the first failure in a tree that has to be for this pair
abbrev pub bad_in : Lists → List Tree → Option Pair → Tree → Option ℕ
bad_in lists all None tree = Some tree.line
bad_in lists all (Some pair) tree =
    for_pair (is_for pair tree) tree (bad_body lists all pair (tree.line + 1) tree.body)

-- the line of the first failure of the whole proof
abbrev pub bad_line : PreparedClaim → Option ℕ
bad_line asked =
    bad_from (lists_of asked) (trees_of asked) asked.proof.now.last_line (due asked.second.now)
    (trees_of asked)

-- nothing is bad in the trees before this number
abbrev pub AreKept : PreparedClaim → ℕ → Type 0
AreKept asked count = (n : ℕ) (tree : Tree) → n < count → slice_get (trees_of asked) n ≡ Some tree
    → bad_in (lists_of asked) (trees_of asked) (slice_get (due asked.second.now) n) tree ≡ None

-- the tree of this number, once nothing is bad before it
pub record IsReached (asked : PreparedClaim) (count : ℕ) (tree : Tree) : Type 0 where
  pub there : slice_get (trees_of asked) count ≡ Some tree
  pub before : AreKept asked count

-- the nodes of the tree of this number keep the rules of the pair that this tree is for
abbrev pub KeepsFor : PreparedClaim → Tree → ℕ → Type 0
KeepsFor asked tree n = (owner : Tree) (nodes : List Node) → slice_get (trees_of asked) n ≡ Some owner
    → owner.body ≡ body.Nodes nodes → (pair : Pair) → IsFor pair tree
    → bad_tree (lists_of asked) pair 0 (cases_in nodes) ≡ None
