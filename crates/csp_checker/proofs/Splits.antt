-- The atoms of a proof's splits are valid, and a walker that has names for all can take those of each tree.
use Rattle.std.proofs.Common.{◌≡◌, ◌∙◌, sym, ap, ℕ, ◌+◌, ◌<◌, ◌≤◌, List, [], ◌∷◌, ◌++◌, append_assoc, length, get_or, drop, All}
use Rattle.std.specs.Prelude.{Contains}
use Rattle.std.specs.List.{flat_map}
use Rattle.std.proofs.lemmas.List.Elements.{All-nil, All-cons, All-head, All-tail, All-append}
use Rattle.csp_facts.specs.Atoms.{IsValidAtom}
use Rattle.csp_facts.specs.declared.atom.Atom.{Atom}
use Rattle.csp_proof.specs.WellFormed.{AreTrees, IsBody, IsValidNode}
use Rattle.csp_proof.specs.declared.proof.Body.{Body}
use Rattle.csp_proof.specs.declared.proof.Body.TheVariants as body
use Rattle.csp_proof.specs.declared.proof.Format.{Format}
use Rattle.csp_proof.specs.declared.proof.Node.{Node}
use Rattle.csp_proof.specs.declared.proof.Node.TheVariants as node
use Rattle.csp_proof.specs.declared.proof.Tree.{Tree}
use Rattle.csp_branch.specs.Walks.{Position}
use Rattle.csp_checker.specs.Walk.{Takes, atoms_below, atoms_of}
use Rattle.csp_checker.proofs.Steps.{here}

-- the atoms of the splits of all trees
abbrev pub atoms_in : List Tree → List Atom
atoms_in trees = flat_map (λ (tree : Tree). atoms_below tree.body) trees

-- with those of one tree more
pub one_more : (trees : List Tree) (k : ℕ) (tree : Tree) (old new : List Atom) → k < length trees → tree ≡ get_or trees k tree → new ≡ old ++ atoms_below tree.body
    → old ++ atoms_in (drop k trees) ≡ atoms_in trees → new ++ atoms_in (drop (k + 1) trees) ≡ atoms_in trees
one_more trees k tree old new inside is grown all =
    ap (λ atoms. atoms ++ atoms_in (drop (k + 1) trees)) grown
    ∙ append_assoc old (atoms_below tree.body) (atoms_in (drop (k + 1) trees))
    ∙ ap (λ ts. old ++ atoms_in ts) (sym (here trees k tree inside is))
    ∙ all

nodes_valid : (nodes : List Node) → All IsValidNode nodes → All IsValidAtom (atoms_of nodes)
nodes_valid [] valid = All-nil IsValidAtom
nodes_valid (node.Split atom ∷ nodes) valid =
    All-cons IsValidAtom atom (atoms_of nodes) (All-head IsValidNode (node.Split atom) nodes valid) (nodes_valid nodes (All-tail IsValidNode (node.Split atom) nodes valid))
nodes_valid (node.Blocked policy ∷ nodes) valid = nodes_valid nodes (All-tail IsValidNode (node.Blocked policy) nodes valid)
nodes_valid (node.Met ∷ nodes) valid = nodes_valid nodes (All-tail IsValidNode node.Met nodes valid)

body_valid : (format : Format) (before : List Tree) (b : Body) → IsBody format before b → All IsValidAtom (atoms_below b)
body_valid format before (body.Nodes nodes) is = nodes_valid nodes is.1
body_valid format before (body.Same n) is = All-nil IsValidAtom

pub atoms_valid : (format : Format) (before trees : List Tree) → AreTrees format before trees → All IsValidAtom (atoms_in trees)
atoms_valid format before [] are = All-nil IsValidAtom
atoms_valid format before (tree ∷ trees) are =
    All-append IsValidAtom (atoms_below tree.body) (atoms_in trees) (body_valid format before tree.body are.0.body) (atoms_valid format (before ++ tree ∷ []) trees are.1)

front : (P : Atom → Type 0) (xs ys : List Atom) → All P (xs ++ ys) → All P xs
front P [] ys all = All-nil P
front P (x ∷ xs) ys all = All-cons P x xs (All-head P x (xs ++ ys) all) (front P xs ys (All-tail P x (xs ++ ys) all))

back : (P : Atom → Type 0) (xs ys : List Atom) → All P (xs ++ ys) → All P ys
back P [] ys all = all
back P (x ∷ xs) ys all = back P xs ys (All-tail P x (xs ++ ys) all)

module _ (walker : Position) where
  abbrev TakesBelow : Tree → Type 0
  TakesBelow tree = Takes walker (atoms_below tree.body)

  abbrev HasRoom : Tree → Type 0
  HasRoom tree = length (atoms_below tree.body) ≤ walker.room

  -- where all have names, and there is room for the most of a tree
  pub trees_taken : (trees : List Tree) → All (Contains walker.atoms) (atoms_in trees) → All HasRoom trees → All TakesBelow trees
  trees_taken [] named room = All-nil TakesBelow
  trees_taken (tree ∷ trees) named room =
      All-cons TakesBelow tree trees
      (record { named = front (Contains walker.atoms) (atoms_below tree.body) (atoms_in trees) named; room = All-head HasRoom tree trees room })
      (trees_taken trees (back (Contains walker.atoms) (atoms_below tree.body) (atoms_in trees) named) (All-tail HasRoom tree trees room))
