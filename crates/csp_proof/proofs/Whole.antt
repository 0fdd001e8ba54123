-- The lines of a well-formed proof lead to its end, and lines that lead to a place begin a proof.
use Rattle.std.proofs.Common.{arith, ◌≡◌, ◌∙◌, sym, ap, subst, refl, ℕ, ◌+◌, zero, suc, true, List, [], ◌∷◌, ◌++◌, length, map, append-nil, append_assoc, length-append, All}
use Rattle.std.specs.Prelude.{Option, Some, None, option_and_then}
use Rattle.std.specs.List.{flat_map}
use Rattle.std.proofs.lemmas.Bool.{and_from, cond-true}
use Rattle.std.proofs.lemmas.List.{map-append, length-map}
use Rattle.std.proofs.lemmas.List.Concat.{flat_map-append}
use Rattle.std.proofs.lemmas.List.Elements.{All-nil, All-cons, All-append, All-map}
use Rattle.csp_proof.specs.Places.{closed, behind_node, is_second, may_share, place_lines, run, IsWithin, IsPlace}
use Rattle.csp_proof.specs.Reading.{IsValidLine}
use Rattle.csp_proof.specs.Spelling.{tree_lines, proof_lines, body_lines}
use Rattle.csp_proof.specs.WellFormed.{Cases, Splits, IsBlocked, IsMet, preorder, IsValidNode, has_nodes, body_at, IsBody, line_behind, IsTree, AreTrees, IsWellFormed}
use Rattle.csp_proof.specs.declared.line.ProofLine.{ProofLine}
use Rattle.csp_proof.specs.declared.line.ProofLine.TheVariants as line
use Rattle.csp_proof.specs.declared.progress.OpenTree.{OpenTree}
use Rattle.csp_proof.specs.declared.progress.Progress.{Progress}
use Rattle.csp_proof.specs.declared.progress.Progress.TheVariants.{Start, Between, Within, Done}
use Rattle.csp_proof.specs.declared.proof.Body.{Body}
use Rattle.csp_proof.specs.declared.proof.Body.TheVariants as body
use Rattle.csp_proof.specs.declared.proof.Format.{Format}
use Rattle.csp_proof.specs.declared.proof.Format.TheVariants.{One}
use Rattle.csp_proof.specs.declared.proof.Node.{Node}
use Rattle.csp_proof.specs.declared.proof.Node.TheVariants as node
use Rattle.csp_proof.specs.declared.proof.Proof.{Proof}
use Rattle.csp_proof.specs.declared.proof.Tree.{Tree}
use Rattle.csp_proof.proofs.Steps.{trees_push, closed_tree, closed_lines}

-- A proof's lines lead to its end

abbrev less : ℕ → Option ℕ
less zero = None
less (suc more) = Some more

less_more : (more : ℕ) → less (more + 1) ≡ Some more
less_more more = let e : more + 1 ≡ suc more = omega arith in ap less e

counts : (number : ℕ) (xs ys : List Node) → number + 1 + length xs + length ys ≡ number + suc (length (xs ++ ys))
counts number xs ys = omega (arith, length-append xs ys)

line_on : (before : List Tree) (tree : Tree) → line_behind before + 1 + length (body_lines tree.body) ≡ line_behind (before ++ tree ∷ [])
line_on before tree =
    let e = ap length (flat_map-append tree_lines before (tree ∷ []) ∙ ap (λ ls. flat_map tree_lines before ++ ls) (append-nil (tree_lines tree))) in
    omega (arith, e, length-append (flat_map tree_lines before) (tree_lines tree))

cases_run : (cases : Cases) (format : Format) (trees : List Tree) (opened : OpenTree) (nodes : List Node) (more number : ℕ) (rest : List ProofLine)
    → run number (Within format trees opened nodes more) (map line.Node (preorder cases) ++ rest)
    ≡ run (number + length (preorder cases)) (behind_node format trees opened (nodes ++ preorder cases) (less more)) rest
cases_run (IsBlocked policy) format trees opened nodes zero number rest = refl
cases_run (IsBlocked policy) format trees opened nodes (suc more) number rest = refl
cases_run IsMet format trees opened nodes zero number rest = refl
cases_run IsMet format trees opened nodes (suc more) number rest = refl
cases_run (Splits atom holds fails) format trees opened nodes more number rest =
    let front = nodes ++ node.Split atom ∷ [] in
    ap (run (number + 1) (Within format trees opened front (more + 1))) (ap (λ ls. ls ++ rest) (map-append line.Node (preorder holds) (preorder fails)) ∙ append_assoc (map line.Node (preorder holds)) (map line.Node (preorder fails)) rest)
    ∙ cases_run holds format trees opened front (more + 1) (number + 1) (map line.Node (preorder fails) ++ rest)
    ∙ ap (λ m. run (number + 1 + length (preorder holds)) (behind_node format trees opened (front ++ preorder holds) m) (map line.Node (preorder fails) ++ rest)) (less_more more)
    ∙ cases_run fails format trees opened (front ++ preorder holds) more (number + 1 + length (preorder holds)) rest
    ∙ ap (λ n. run n (behind_node format trees opened ((front ++ preorder holds) ++ preorder fails) (less more)) rest) (counts number (preorder holds) (preorder fails))
    ∙ ap (λ ns. run (number + suc (length (preorder holds ++ preorder fails))) (behind_node format trees opened ns (less more)) rest)
    (append_assoc front (preorder holds) (preorder fails) ∙ append_assoc nodes (node.Split atom ∷ []) (preorder holds ++ preorder fails))

body_run : (format : Format) (trees : List Tree) (opened : OpenTree) (b : Body) (number : ℕ) (rest : List ProofLine) → IsBody format trees b
    → run number (Within format trees opened [] 0) (body_lines b ++ rest) ≡ run (number + length (body_lines b)) (Between format (trees ++ closed opened b ∷ [])) rest
body_run format trees opened (body.Nodes nodes) number rest is =
    subst (λ (ns : List Node). run number (Within format trees opened [] 0) (map line.Node ns ++ rest) ≡ run (number + length (map line.Node ns)) (Between format (trees ++ closed opened (body.Nodes ns) ∷ [])) rest) is.0.1
    (cases_run is.0.0 format trees opened [] 0 number rest ∙ ap (λ n. run (number + n) (Between format (trees ++ closed opened (body.Nodes (preorder is.0.0)) ∷ [])) rest) (sym (length-map (preorder is.0.0) line.Node)))
body_run format trees opened (body.Same tree) number rest is =
    let shares : may_share format trees tree ≡ true = and_from (is_second format) (has_nodes (body_at trees tree)) (ap is_second is.0) is.2 in
    ap (option_and_then (λ p. run (number + 1) p rest)) (cond-true _ _ _ shares)

trees_run : (format : Format) (before trees : List Tree) (rest : List ProofLine) → AreTrees format before trees
    → run (line_behind before) (Between format before) (flat_map tree_lines trees ++ rest) ≡ run (line_behind (before ++ trees)) (Between format (before ++ trees)) rest
trees_run format before [] rest each = ap (λ ts. run (line_behind ts) (Between format ts) rest) (sym (append-nil before))
trees_run format before (tree ∷ trees) rest each =
    let opened : OpenTree = record { shape = tree.shape; policy = tree.policy; line = line_behind before } in
    let same : closed opened tree.body ≡ tree = ap (λ (n : ℕ). record { shape = tree.shape; policy = tree.policy; line = n; body = tree.body }) (sym each.0.line) in
    let more = flat_map tree_lines trees ++ rest in
    ap (λ ls. run (line_behind before) (Between format before) (line.Tree tree.shape tree.policy ∷ ls)) (append_assoc (body_lines tree.body) (flat_map tree_lines trees) rest)
    ∙ body_run format before opened tree.body (line_behind before + 1) more each.0.body
    ∙ ap (λ t. run (line_behind before + 1 + length (body_lines tree.body)) (Between format (before ++ t ∷ [])) more) same
    ∙ ap (λ n. run n (Between format (before ++ tree ∷ [])) more) (line_on before tree)
    ∙ trees_run format (before ++ tree ∷ []) trees rest each.1
    ∙ ap (λ ts. run (line_behind ts) (Between format ts) rest) (append_assoc before (tree ∷ []) trees)

pub whole_run : (proof : Proof) → IsWellFormed proof → run 1 Start (proof_lines proof) ≡ Some (Done proof)
whole_run proof formed =
    trees_run proof.format [] proof.trees (line.End ∷ []) formed.trees
    ∙ ap (λ (n : ℕ). Some (Done (record { format = proof.format; trees = proof.trees; last_line = n }))) (sym formed.last_line)

-- Each line of a proof is valid

tree_valid : (format : Format) (before : List Tree) (tree : Tree) → IsTree format before tree → All IsValidLine (tree_lines tree)
tree_valid format before tree is = All-cons IsValidLine (line.Tree tree.shape tree.policy) (body_lines tree.body) (is.shape, is.policy) (by tree.body is.body) where
  by : (b : Body) → IsBody format before b → All IsValidLine (body_lines b)
  by (body.Nodes nodes) h = All-map IsValidLine line.Node nodes h.1
  by (body.Same number) h = All-cons IsValidLine (line.Same number) [] h.1 (All-nil IsValidLine)

trees_valid : (format : Format) (before trees : List Tree) → AreTrees format before trees → All IsValidLine (flat_map tree_lines trees)
trees_valid format before [] each = All-nil IsValidLine
trees_valid format before (tree ∷ trees) each =
    All-append IsValidLine (tree_lines tree) (flat_map tree_lines trees) (tree_valid format before tree each.0) (trees_valid format (before ++ tree ∷ []) trees each.1)

pub lines_valid : (proof : Proof) → IsWellFormed proof → All IsValidLine (proof_lines proof)
lines_valid proof formed =
    All-cons IsValidLine (line.Head proof.format) (flat_map tree_lines proof.trees ++ line.End ∷ []) tt
    (All-append IsValidLine (flat_map tree_lines proof.trees) (line.End ∷ []) (trees_valid proof.format [] proof.trees formed.trees) (All-cons IsValidLine line.End [] tt (All-nil IsValidLine)))

-- What leads to a place begins a proof

abbrev GoesOn : Progress → Type 0
GoesOn place = (proof : Proof) × (rest : List ProofLine) × IsWellFormed proof × (proof_lines proof ≡ place_lines place ++ rest)

ended : (format : Format) (trees : List Tree) → AreTrees format [] trees → GoesOn (Between format trees)
ended format trees each = (record { format = format; trees = trees; last_line = line_behind trees }, line.End ∷ [], record { trees = each; last_line = refl }, refl)

abbrev all_met : ℕ → List Cases
all_met zero = []
all_met (suc n) = IsMet ∷ all_met n

met_count : (n : ℕ) → length (all_met n) ≡ n
met_count zero = refl
met_count (suc n) = ap suc (met_count n)

met_valid : (n : ℕ) → All IsValidNode (flat_map preorder (all_met n))
met_valid zero = All-nil IsValidNode
met_valid (suc n) = All-cons IsValidNode node.Met (flat_map preorder (all_met n)) tt (met_valid n)

finished : (format : Format) (trees : List Tree) (opened : OpenTree) (nodes : List Node) (more : ℕ) → IsWithin format trees opened nodes more → GoesOn (Within format trees opened nodes more)
unfolding ended
finished format trees opened nodes more within =
    let mets = flat_map preorder (all_met (more + 1)) in
    let b = body.Nodes (nodes ++ mets) in
    let made = closed_tree format trees opened b within.here (within.begun (all_met (more + 1)) (met_count (more + 1)), All-append IsValidNode nodes mets within.valid (met_valid (more + 1))) in
    let on = ended format (trees ++ closed opened b ∷ []) (trees_push format [] trees (closed opened b) within.before made) in
    let front = line.Head format ∷ flat_map tree_lines trees in (
      on.0,
      map line.Node mets ++ on.1,
      on.2,
      on.3 ∙ ap (λ ls. ls ++ line.End ∷ []) (closed_lines format trees opened b ∙ ap (λ ls. front ++ line.Tree opened.shape opened.policy ∷ ls) (map-append line.Node nodes mets)
          ∙ sym (append_assoc front (line.Tree opened.shape opened.policy ∷ map line.Node nodes) (map line.Node mets)))
          ∙ append_assoc (front ++ line.Tree opened.shape opened.policy ∷ map line.Node nodes) (map line.Node mets) (line.End ∷ []),
    )

pub goes_on : (place : Progress) → IsPlace place → GoesOn place
goes_on Start is = (record { format = One; trees = []; last_line = 2 }, line.Head One ∷ line.End ∷ [], record { trees = tt; last_line = refl }, refl)
goes_on (Between format trees) is = ended format trees is
goes_on (Within format trees opened nodes more) is = finished format trees opened nodes more is
goes_on (Done proof) is = (proof, [], is, sym (append-nil (proof_lines proof)))
