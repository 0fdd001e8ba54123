-- The rules that a proof keeps which shows that the second list allows what the first allows, and the line of
-- the first failure. `surely` says what literals decide of the sentence that a policy is at a shape.
use Rattle.std.specs.Prelude.{◌≡◌, ℕ, ◌+◌, ◌&&◌, nat_eq, Bool, true, false, not, List, [], ◌∷◌, ◌++◌, length, Option, Some, None, slice_get, All}
use Rattle.csp_model.specs.DecideVerdict.{allows}
use Rattle.csp_model.specs.Validity.{IsValidCheck}
use Rattle.csp_model.specs.Verdict.{is_enforce}
use Rattle.csp_model.specs.declared.check.Check.{Check}
use Rattle.csp_model.specs.declared.policy.Policy.{Policy}
use Rattle.csp_model.specs.declared.policy.PolicyList.{PolicyList}
use Rattle.csp_model.specs.declared.source.Hash.{Hash}
use Rattle.csp_facts.specs.Vocabulary.{vocabulary_hashes}
use Rattle.csp_facts.specs.declared.atom.Atom.{Atom}
use Rattle.csp_facts.specs.declared.atom.Literal.{Literal}
use Rattle.csp_facts.specs.Numbers.{number}
use Rattle.csp_facts.specs.Shapes.{HasShape}
use Rattle.csp_facts.specs.declared.shape.Shape.{Shape}
use Rattle.csp_formula.specs.Compiled.{policy_sentence}
use Rattle.csp_formula.specs.Surely.{surely}
use Rattle.csp_formula.specs.Values.{is_true_for}
use Rattle.csp_proof.specs.Pairs.{Pair, pairs}
use Rattle.csp_proof.specs.WellFormed.{Cases, Splits, IsBlocked, IsMet, preorder, body_at}
use Rattle.csp_proof.specs.declared.proof.Body.{Body}
use Rattle.csp_proof.specs.declared.proof.Body.TheVariants as body
use Rattle.csp_proof.specs.declared.proof.Node.{Node}
use Rattle.csp_proof.specs.declared.proof.Node.TheVariants as node
use Rattle.csp_proof.specs.declared.proof.Proof.{Proof}
use Rattle.csp_proof.specs.declared.proof.Tree.{Tree}

-- The trees of cases that nodes in preorder are

abbrev pub under : Atom → List Cases → List Cases
under atom (holds ∷ fails ∷ others) = Splits atom holds fails ∷ others
under atom others = others

abbrev pub cases_in : List Node → List Cases
cases_in [] = []
cases_in (node.Split atom ∷ nodes) = under atom (cases_in nodes)
cases_in (node.Blocked policy ∷ nodes) = IsBlocked policy ∷ cases_in nodes
cases_in (node.Met ∷ nodes) = IsMet ∷ cases_in nodes

-- Leaves

abbrev pub is_surely : Bool → Option Bool → Bool
is_surely true (Some known) = known
is_surely false (Some known) = not known
is_surely expected None = false

-- the enforced policy of this number surely has this value on each check of which the literals are true
abbrev pub policy_is : Bool → List Hash → Shape → List Literal → Option Policy → Bool
policy_is expected hashes kind literals None = false
policy_is expected hashes kind literals (Some policy) =
    is_enforce policy.disposition && is_surely expected (surely literals (policy_sentence policy kind hashes))

-- two lists of policies
pub record Lists : Type 0 where
  pub first : PolicyList
  pub second : PolicyList

abbrev pub hashes_in : Lists → List Hash
hashes_in lists = vocabulary_hashes lists.first lists.second

-- a policy of the first list surely allows nothing
abbrev pub blocks : Lists → Pair → List Literal → ℕ → Bool
blocks lists pair literals policy =
    policy_is false (hashes_in lists) pair.shape literals (slice_get lists.first.policies policy)

-- the pair's policy of the second list surely allows all
abbrev pub is_met : Lists → Pair → List Literal → Bool
is_met lists pair literals =
    policy_is true (hashes_in lists) pair.shape literals (slice_get lists.second.policies pair.policy)

-- The first failure

-- none where the test passes, else this line
abbrev pub unless : Bool → ℕ → Option ℕ
unless true line = None
unless false line = Some line

abbrev pub first_of : Option ℕ → Option ℕ → Option ℕ
first_of (Some line) rest = Some line
first_of None rest = rest

abbrev pub literal : Atom → Bool → Literal
literal atom positive = record { atom = atom; positive = positive }

-- the line of the first node that breaks a rule, where the first of all stands in this line. Below a split
-- the literals grow at their end, so that the root's comes first.
abbrev pub bad_case : Lists → Pair → List Literal → ℕ → Cases → Option ℕ
bad_case lists pair literals line (Splits atom holds fails) =
    first_of (bad_case lists pair (literals ++ literal atom true ∷ []) (line + 1) holds)
    (bad_case lists pair (literals ++ literal atom false ∷ []) (line + 1 + length (preorder holds)) fails)
bad_case lists pair literals line (IsBlocked policy) = unless (blocks lists pair literals policy) line
bad_case lists pair literals line IsMet = unless (is_met lists pair literals) line

-- the nodes have to be a tree
abbrev pub bad_tree : Lists → Pair → ℕ → List Cases → Option ℕ
bad_tree lists pair line [] = Some line
bad_tree lists pair line (cases ∷ others) = bad_case lists pair [] line cases

-- a failure in shared nodes is one of the line that shares them
abbrev pub at_line : ℕ → Option ℕ → Option ℕ
at_line line None = None
at_line line (Some other) = Some line

-- the trees are those of the whole proof, among which a tree may share nodes
abbrev pub bad_shared : Lists → Pair → ℕ → Option Body → Option ℕ
bad_shared lists pair line (Some (body.Nodes nodes)) =
    at_line line (bad_tree lists pair line (cases_in nodes))
bad_shared lists pair line other = Some line

abbrev pub bad_body : Lists → List Tree → Pair → ℕ → Body → Option ℕ
bad_body lists trees pair line (body.Nodes nodes) = bad_tree lists pair line (cases_in nodes)
bad_body lists trees pair line (body.Same tree) = bad_shared lists pair line (body_at trees tree)

abbrev pub is_for : Pair → Tree → Bool
is_for pair tree = nat_eq (number pair.shape) tree.shape && nat_eq pair.policy tree.policy

-- the tree's own line, where the tree isn't for the pair, and else what is bad below it
abbrev pub for_pair : Bool → Tree → Option ℕ → Option ℕ
for_pair true tree below = below
for_pair false tree below = Some tree.line

-- the trees are for these pairs, in their order; a pair that is left fails at the last line
abbrev pub bad_from : Lists → List Tree → ℕ → List Pair → List Tree → Option ℕ
bad_from lists all last [] [] = None
bad_from lists all last (pair ∷ ps) [] = Some last
bad_from lists all last [] (tree ∷ trees) = Some tree.line
bad_from lists all last (pair ∷ ps) (tree ∷ trees) = first_of
    (for_pair (is_for pair tree) tree (bad_body lists all pair (tree.line + 1) tree.body))
    (bad_from lists all last ps trees)

-- the line of the first failure of a proof that the second list allows what the first allows
abbrev pub first_bad_node : PolicyList → PolicyList → Proof → Option ℕ
first_bad_node first second proof =
    bad_from (record { first = first; second = second })
    proof.trees proof.last_line (pairs second) proof.trees

abbrev pub IsAccepted : PolicyList → PolicyList → Proof → Type 0
IsAccepted first second proof = first_bad_node first second proof ≡ None

-- What acceptance shows

-- the sentence that the policy is at a shape has, on each valid check of the shape, the value of what the
-- policy allows
abbrev pub IsSaid : List Hash → Policy → Type 0
IsSaid hashes policy = (kind : Shape) (asked : Check) → HasShape asked kind → IsValidCheck asked
    → is_true_for hashes asked (policy_sentence policy kind hashes) ≡ allows policy asked

-- so it is for each policy of both lists
pub record AreSaid (first second : PolicyList) : Type 0 where
  pub by_first : All (IsSaid (vocabulary_hashes first second)) first.policies
  pub by_second : All (IsSaid (vocabulary_hashes first second)) second.policies
