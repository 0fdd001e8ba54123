-- The walk over the nodes of a tree, by the cases that are still to come.
use Rattle.std.specs.List.{list_all}
use Rattle.std.specs.Prelude.{ℕ, ◌+◌, ◌≤◌, Bool, true, false, List, [], ◌∷◌, ◌++◌, length, Option, Some, None, All, Contains}
use Rattle.csp_facts.specs.declared.atom.Atom.{Atom}
use Rattle.csp_facts.specs.declared.atom.Literal.{Literal}
use Rattle.csp_branch.specs.Walks.{Position, with}
use Rattle.csp_proof.specs.declared.proof.Body.{Body}
use Rattle.csp_proof.specs.declared.proof.Body.TheVariants as body
use Rattle.csp_proof.specs.declared.proof.Node.{Node}
use Rattle.csp_proof.specs.declared.proof.Node.TheVariants as node

-- the atoms of the splits, in order
abbrev pub atoms_of : List Node → List Atom
atoms_of [] = []
atoms_of (node.Split atom ∷ nodes) = atom ∷ atoms_of nodes
atoms_of (node.Blocked policy ∷ nodes) = atoms_of nodes
atoms_of (node.Met ∷ nodes) = atoms_of nodes

abbrev pub atoms_below : Body → List Atom
atoms_below (body.Nodes nodes) = atoms_of nodes
atoms_below (body.Same tree) = []

-- no node of a tree is met: what its leaves claim is of no policy of the second list
abbrev pub is_unmet : Node → Bool
is_unmet (node.Split atom) = true
is_unmet (node.Blocked policy) = true
is_unmet node.Met = false

abbrev pub is_unmet_below : Body → Bool
is_unmet_below (body.Nodes nodes) = list_all is_unmet nodes
is_unmet_below (body.Same tree) = false

abbrev pub unless_first : Bool → ℕ → Option ℕ → Option ℕ
unless_first true place rest = rest
unless_first false place rest = Some place

-- the place of the first node that breaks a rule, where the first node has this place and these cases come.
-- The rule tells whether a leaf keeps it where these literals lead to it.
abbrev pub walk : (List Literal → Node → Bool) → ℕ → List (List Literal) → List Node → Option ℕ
walk rule place cases [] = None
walk rule place [] (n ∷ nodes) = None
walk rule place (ls ∷ cases) (node.Split atom ∷ nodes) =
    walk rule (place + 1) (with ls atom true ∷ with ls atom false ∷ cases) nodes
walk rule place (ls ∷ cases) (node.Blocked policy ∷ nodes) =
    unless_first (rule ls (node.Blocked policy)) place (walk rule (place + 1) cases nodes)
walk rule place (ls ∷ cases) (node.Met ∷ nodes) =
    unless_first (rule ls node.Met) place (walk rule (place + 1) cases nodes)

-- from the root it can take literals of these atoms: they have names, and there is room
pub record Takes (walker : Position) (atoms : List Atom) : Type 0 where
  pub named : All (Contains walker.atoms) atoms
  pub room : length atoms ≤ walker.room
