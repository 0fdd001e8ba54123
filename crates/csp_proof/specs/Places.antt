-- Words of private contracts, which stand here since contracts cite only specs/: what the lines of a text say
-- so far, and which lines may come next.
use Rattle.std.specs.Prelude.{◌≡◌, ℕ, ◌+◌, ◌<◌, ◌&&◌, Bool, true, false, zero, suc, if◌then◌else◌, List, [], ◌∷◌, ◌++◌, length, map, Option, Some, None, option_and_then, All, ⊤, Result, Ok, Err}
use Rattle.std.specs.List.{flat_map}
use Rattle.csp_model.specs.Policies.{policy_limit}
use Rattle.csp_facts.specs.Numbers.{shape_count}
use Rattle.csp_proof.specs.Spelling.{line_text, tree_lines, proof_lines}
use Rattle.csp_proof.specs.Reading.{IsValidLine}
use Rattle.csp_proof.specs.declared.error.ProofError.{ProofError}
use Rattle.csp_proof.specs.declared.error.ProofError.TheVariants.{BadProof, Memory}
use Rattle.csp_proof.specs.WellFormed.{has_nodes, body_at, Cases, preorder, IsValidNode, line_behind, AreTrees, IsWellFormed}
use Rattle.csp_proof.specs.declared.line.ProofLine.{ProofLine}
use Rattle.csp_proof.specs.declared.line.ProofLine.TheVariants as line
use Rattle.csp_proof.specs.declared.progress.OpenTree.{OpenTree}
use Rattle.csp_proof.specs.declared.progress.Progress.{Progress}
use Rattle.csp_proof.specs.declared.progress.Progress.TheVariants.{Start, Between, Within, Done}
use Rattle.csp_proof.specs.declared.proof.Body.{Body}
use Rattle.csp_proof.specs.declared.proof.Body.TheVariants as body
use Rattle.csp_proof.specs.declared.proof.Format.{Format}
use Rattle.csp_proof.specs.declared.proof.Format.TheVariants.{One, Two}
use Rattle.csp_proof.specs.declared.proof.Node.{Node}
use Rattle.csp_proof.specs.declared.proof.Node.TheVariants as node
use Rattle.csp_proof.specs.declared.proof.Proof.{Proof}
use Rattle.csp_proof.specs.declared.proof.Tree.{Tree}

-- the tree that was opened, with its body
abbrev pub closed : OpenTree → Body → Tree
closed opened b = record { shape = opened.shape; policy = opened.policy; line = opened.line; body = b }

-- how many branches are still to come besides the next, behind a node; none where the tree is whole
abbrev pub branches_behind : ℕ → Node → Option ℕ
branches_behind more (node.Split atom) = Some (more + 1)
branches_behind zero leaf = None
branches_behind (suc more) leaf = Some more

abbrev pub behind_node : Format → List Tree → OpenTree → List Node → Option ℕ → Progress
behind_node format trees opened nodes None = Between format (trees ++ closed opened (body.Nodes nodes) ∷ [])
behind_node format trees opened nodes (Some more) = Within format trees opened nodes more

abbrev pub is_second : Format → Bool
is_second One = false
is_second Two = true

-- a tree may share the nodes of the one of this number
abbrev pub may_share : Format → List Tree → ℕ → Bool
may_share format trees number = is_second format && has_nodes (body_at trees number)

-- the place behind a line, which is the one of this number; none where the line can't stand there
abbrev pub next : ℕ → Progress → ProofLine → Option Progress
next number Start (line.Head format) = Some (Between format [])
next number (Between format trees) (line.Tree shape policy) =
    Some (Within format trees (record { shape = shape; policy = policy; line = number }) [] 0)
next number (Between format trees) line.End =
    Some (Done (record { format = format; trees = trees; last_line = number }))
next number (Within format trees opened nodes more) (line.Node step) =
    Some (behind_node format trees opened (nodes ++ step ∷ []) (branches_behind more step))
next number (Within format trees opened [] more) (line.Same tree) =
    if may_share format trees tree then Some (Between format (trees ++ closed opened (body.Same tree) ∷ []))
    else None
next number place l = None

-- how many branches are still to come besides the next
abbrev pub branches : Progress → ℕ
branches (Within format trees opened nodes more) = more
branches place = 0

-- What the lines so far say

-- the lines that lead to a place
abbrev pub place_lines : Progress → List ProofLine
place_lines Start = []
place_lines (Between format trees) = line.Head format ∷ flat_map tree_lines trees
place_lines (Within format trees opened nodes more) =
    (line.Head format ∷ flat_map tree_lines trees) ++ line.Tree opened.shape opened.policy ∷ map line.Node nodes
place_lines (Done proof) = proof_lines proof

-- the place behind these lines, of which the first has this number; none where one can't stand there
abbrev pub run : ℕ → Progress → List ProofLine → Option Progress
run number place [] = Some place
run number place (l ∷ ls) = option_and_then (λ p. run (number + 1) p ls) (next number place l)

pub record IsOpened (trees : List Tree) (opened : OpenTree) : Type 0 where
  pub shape : opened.shape < shape_count
  pub policy : opened.policy < policy_limit
  pub line : opened.line ≡ line_behind trees

-- the nodes and as many whole trees as branches are still to come make up a tree
abbrev pub IsBegun : List Node → ℕ → Type 0
IsBegun nodes more = (others : List Cases) → length others ≡ more + 1
    → (cases : Cases) × (preorder cases ≡ nodes ++ flat_map preorder others)

pub record IsWithin (format : Format) (trees : List Tree) (opened : OpenTree) (nodes : List Node) (more : ℕ) : Type 0 where
  pub before : AreTrees format [] trees
  pub here : IsOpened trees opened
  pub valid : All IsValidNode nodes
  pub begun : IsBegun nodes more

abbrev pub IsPlace : Progress → Type 0
IsPlace Start = ⊤
IsPlace (Between format trees) = AreTrees format [] trees
IsPlace (Within format trees opened nodes more) = IsWithin format trees opened nodes more
IsPlace (Done proof) = IsWellFormed proof

-- a place that lines lead to
pub record IsReached (place : Progress) : Type 0 where
  pub valid : IsPlace place
  pub run : run 1 Start (place_lines place) ≡ Some place

-- Reading

-- the text spells a line that leads from the one place to the other
abbrev pub Leads : ℕ → Progress → List ℕ → Progress → Type 0
Leads number place text after =
    (l : ProofLine) × IsValidLine l × (text ≡ line_text l) × (next number place l ≡ Some after)

-- the text spells no line that can stand at the place, and is the line of this number
abbrev pub IsStuck : ℕ → Progress → List ℕ → ProofError → Type 0
IsStuck number place text (BadProof there) =
    (there ≡ number) × ((l : ProofLine) → IsValidLine l → text ≡ line_text l → next number place l ≡ None)
IsStuck number place text Memory = ⊤

abbrev pub proof_at : Progress → List ℕ → ℕ → Result Proof ProofError
proof_at (Done proof) [] number = Ok proof
proof_at place rest number = Err (BadProof number)
