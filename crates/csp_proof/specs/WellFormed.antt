-- Which proofs the format can spell.
use Rattle.std.specs.Prelude.{◌≡◌, ℕ, ◌+◌, ◌<◌, ◌^◌, Bool, true, false, List, [], ◌∷◌, ◌++◌, length, Option, Some, None, All, IsTrue, ⊤, slice_get, option_map}
use Rattle.std.specs.List.{flat_map}
use Rattle.csp_model.specs.Policies.{policy_limit}
use Rattle.csp_facts.specs.Atoms.{IsValidAtom}
use Rattle.csp_facts.specs.declared.atom.Atom.{Atom}
use Rattle.csp_facts.specs.Numbers.{shape_count}
use Rattle.csp_proof.specs.Spelling.{tree_lines}
use Rattle.csp_proof.specs.declared.proof.Node.{Node}
use Rattle.csp_proof.specs.declared.proof.Node.TheVariants as node
use Rattle.csp_proof.specs.declared.proof.Format.{Format}
use Rattle.csp_proof.specs.declared.proof.Format.TheVariants.{Two}
use Rattle.csp_proof.specs.declared.proof.Body.{Body}
use Rattle.csp_proof.specs.declared.proof.Body.TheVariants as body
use Rattle.csp_proof.specs.declared.proof.Tree.{Tree}
use Rattle.csp_proof.specs.declared.proof.Proof.{Proof}

-- a tree of cases: a split has the case where the atom holds, and the other
pub data Cases : Type 0 where
  Splits : Atom → Cases → Cases → Cases
  IsBlocked : ℕ → Cases
  IsMet : Cases

-- its nodes in preorder
abbrev pub preorder : Cases → List Node
preorder (Splits atom holds fails) = node.Split atom ∷ (preorder holds ++ preorder fails)
preorder (IsBlocked policy) = node.Blocked policy ∷ []
preorder IsMet = node.Met ∷ []

abbrev pub IsValidNode : Node → Type 0
IsValidNode (node.Split atom) = IsValidAtom atom
IsValidNode (node.Blocked policy) = policy < policy_limit
IsValidNode node.Met = ⊤

-- the nodes are one tree of cases, and no more
abbrev pub IsPreorder : List Node → Type 0
IsPreorder nodes = (cases : Cases) × (preorder cases ≡ nodes)

-- there is a tree, which has nodes of its own
abbrev pub has_nodes : Option Body → Bool
has_nodes (Some (body.Nodes nodes)) = true
has_nodes (Some (body.Same number)) = false
has_nodes None = false

abbrev pub body_at : List Tree → ℕ → Option Body
body_at trees number = option_map (λ (tree : Tree). tree.body) (slice_get trees number)

-- what may stand below the line of a tree, where these trees stand before it: nodes, or in the second format
-- the number of one of these trees that has nodes
abbrev pub IsBody : Format → List Tree → Body → Type 0
IsBody format before (body.Nodes nodes) = IsPreorder nodes × All IsValidNode nodes
IsBody format before (body.Same number) =
    (format ≡ Two) × (number < 2 ^ 32) × IsTrue (has_nodes (body_at before number))

-- the line behind those of the format and of these trees, where lines are counted from 1
abbrev pub line_behind : List Tree → ℕ
line_behind trees = length (flat_map tree_lines trees) + 2

-- a tree that may stand behind these
pub record IsTree (format : Format) (before : List Tree) (tree : Tree) : Type 0 where
  pub shape : tree.shape < shape_count
  pub policy : tree.policy < policy_limit
  pub line : tree.line ≡ line_behind before
  pub body : IsBody format before tree.body

-- trees that may stand behind these, each behind those before it
abbrev pub AreTrees : Format → List Tree → List Tree → Type 0
AreTrees format before [] = ⊤
AreTrees format before (tree ∷ trees) = IsTree format before tree × AreTrees format (before ++ tree ∷ []) trees

pub record IsWellFormed (proof : Proof) : Type 0 where
  pub trees : AreTrees proof.format [] proof.trees
  pub last_line : proof.last_line ≡ line_behind proof.trees
