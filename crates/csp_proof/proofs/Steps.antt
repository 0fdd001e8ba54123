-- A line that can stand at a place leads to a place, and lines lead to each place that is reached.
use Rattle.std.proofs.Common.{arith, ◌≡◌, ◌∙◌, sym, ap, subst, refl, ℕ, ◌+◌, ◌<◌, ◌^◌, zero, suc, true, List, [], ◌∷◌, ◌++◌, length, map, append-nil, append_assoc}
use Rattle.std.specs.Prelude.{Option, Some, None, IfSome, option_and_then, if◌then◌else◌}
use Rattle.std.specs.List.{flat_map}
use Rattle.std.proofs.lemmas.Bool.{and_parts, cond_both, false≢true}
use Rattle.std.proofs.lemmas.List.{map_push}
use Rattle.std.proofs.lemmas.List.Concat.{flat_map-append}
use Rattle.std.proofs.lemmas.List.Elements.{All-nil, All-push}
use Rattle.csp_proof.specs.Places.{closed, branches_behind, behind_node, is_second, may_share, next, place_lines, run, IsOpened, IsBegun, IsWithin, IsPlace, IsReached}
use Rattle.csp_proof.specs.Reading.{IsValidLine}
use Rattle.csp_proof.specs.Spelling.{tree_lines, body_lines}
use Rattle.csp_proof.specs.WellFormed.{Cases, Splits, IsBlocked, IsMet, preorder, IsValidNode, IsPreorder, has_nodes, body_at, IsBody, IsTree, AreTrees}
use Rattle.csp_facts.specs.declared.atom.Atom.{Atom}
use Rattle.csp_proof.specs.declared.line.ProofLine.{ProofLine}
use Rattle.csp_proof.specs.declared.line.ProofLine.TheVariants as line
use Rattle.csp_proof.specs.declared.progress.OpenTree.{OpenTree}
use Rattle.csp_proof.specs.declared.progress.Progress.{Progress}
use Rattle.csp_proof.specs.declared.progress.Progress.TheVariants.{Start, Between, Within}
use Rattle.csp_proof.specs.declared.proof.Body.{Body}
use Rattle.csp_proof.specs.declared.proof.Body.TheVariants as body
use Rattle.csp_proof.specs.declared.proof.Format.{Format}
use Rattle.csp_proof.specs.declared.proof.Format.TheVariants.{One, Two}
use Rattle.csp_proof.specs.declared.proof.Node.{Node}
use Rattle.csp_proof.specs.declared.proof.Node.TheVariants as node
use Rattle.csp_proof.specs.declared.proof.Tree.{Tree}

-- Trees behind trees

pub trees_push : (format : Format) (before trees : List Tree) (tree : Tree) → AreTrees format before trees → IsTree format (before ++ trees) tree → AreTrees format before (trees ++ tree ∷ [])
trees_push format before [] tree each last = (subst (λ (b : List Tree). IsTree format b tree) (append-nil before) last, tt)
trees_push format before (first ∷ trees) tree each last =
    (each.0, trees_push format (before ++ first ∷ []) trees tree each.1 (subst (λ (b : List Tree). IsTree format b tree) (sym (append_assoc before (first ∷ []) trees)) last))

pub closed_tree : (format : Format) (trees : List Tree) (opened : OpenTree) (b : Body) → IsOpened trees opened → IsBody format trees b → IsTree format trees (closed opened b)
closed_tree format trees opened b is body = record { shape = is.shape; policy = is.policy; line = is.line; body = body }

-- the lines with one more tree
pub closed_lines : (format : Format) (trees : List Tree) (opened : OpenTree) (b : Body)
    → place_lines (Between format (trees ++ closed opened b ∷ [])) ≡ (line.Head format ∷ flat_map tree_lines trees) ++ line.Tree opened.shape opened.policy ∷ body_lines b
closed_lines format trees opened b =
    ap (λ ls. line.Head format ∷ ls) (flat_map-append tree_lines trees (closed opened b ∷ []) ∙ ap (λ ls. flat_map tree_lines trees ++ ls) (append-nil (tree_lines (closed opened b))))

with_node : (format : Format) (trees : List Tree) (opened : OpenTree) (nodes : List Node) (step : Node)
    → (line.Head format ∷ flat_map tree_lines trees) ++ line.Tree opened.shape opened.policy ∷ map line.Node (nodes ++ step ∷ [])
    ≡ ((line.Head format ∷ flat_map tree_lines trees) ++ line.Tree opened.shape opened.policy ∷ map line.Node nodes) ++ line.Node step ∷ []
with_node format trees opened nodes step =
    let front = line.Head format ∷ flat_map tree_lines trees in
    ap (λ ls. front ++ line.Tree opened.shape opened.policy ∷ ls) (map_push line.Node nodes step) ∙ sym (append_assoc front (line.Tree opened.shape opened.policy ∷ map line.Node nodes) (line.Node step ∷ []))

-- Nodes

begun_split : (nodes : List Node) (more : ℕ) (atom : Atom) → IsBegun nodes more → IsBegun (nodes ++ node.Split atom ∷ []) (more + 1)
begun_split nodes more atom begun [] count = absurd (omega arith)
begun_split nodes more atom begun (holds ∷ []) count = absurd (omega arith)
begun_split nodes more atom begun (holds ∷ fails ∷ others) count =
    let whole = begun (Splits atom holds fails ∷ others) (omega arith) in
    let rest = flat_map preorder others in
    (whole.0, whole.1 ∙ ap (λ ns. nodes ++ node.Split atom ∷ ns) (append_assoc (preorder holds) (preorder fails) rest) ∙ sym (append_assoc nodes (node.Split atom ∷ []) (preorder holds ++ (preorder fails ++ rest))))

begun_leaf : (nodes : List Node) (more : ℕ) (leaf : Node) (one : Cases) → preorder one ≡ leaf ∷ [] → IsBegun nodes (suc more) → IsBegun (nodes ++ leaf ∷ []) more
begun_leaf nodes more leaf one is begun others count =
    let whole = begun (one ∷ others) (omega arith) in
    (whole.0, whole.1 ∙ ap (λ ns. nodes ++ (ns ++ flat_map preorder others)) is ∙ sym (append_assoc nodes (leaf ∷ []) (flat_map preorder others)))

whole_leaf : (nodes : List Node) (leaf : Node) (one : Cases) → preorder one ≡ leaf ∷ [] → IsBegun nodes 0 → IsPreorder (nodes ++ leaf ∷ [])
whole_leaf nodes leaf one is begun = let whole = begun (one ∷ []) (omega arith) in (whole.0, whole.1 ∙ ap (λ ns. nodes ++ ns) (append-nil (preorder one) ∙ is))

-- Steps

abbrev LeadsTo : Progress → ProofLine → Progress → Type 0
LeadsTo place l after = IsPlace after × (place_lines after ≡ place_lines place ++ l ∷ [])

leaf_step : (format : Format) (trees : List Tree) (opened : OpenTree) (nodes : List Node) (more : ℕ) (leaf : Node) (one : Cases) → preorder one ≡ leaf ∷ []
    → IsWithin format trees opened nodes more → IsValidNode leaf → (behind : ℕ → Option ℕ) → behind zero ≡ None → ((m : ℕ) → behind (suc m) ≡ Some m)
    → LeadsTo (Within format trees opened nodes more) (line.Node leaf) (behind_node format trees opened (nodes ++ leaf ∷ []) (behind more))
leaf_step format trees opened nodes zero leaf one is within valid behind none some =
    let b = body.Nodes (nodes ++ leaf ∷ []) in
    let made = closed_tree format trees opened b within.here (whole_leaf nodes leaf one is within.begun, All-push IsValidNode nodes leaf within.valid valid) in
    subst (λ (m : Option ℕ). LeadsTo (Within format trees opened nodes 0) (line.Node leaf) (behind_node format trees opened (nodes ++ leaf ∷ []) m)) (sym none)
    (trees_push format [] trees (closed opened b) within.before made, closed_lines format trees opened b ∙ with_node format trees opened nodes leaf)
leaf_step format trees opened nodes (suc more) leaf one is within valid behind none some =
    subst (λ (m : Option ℕ). LeadsTo (Within format trees opened nodes (suc more)) (line.Node leaf) (behind_node format trees opened (nodes ++ leaf ∷ []) m)) (sym (some more))
    (record { before = within.before; here = within.here; valid = All-push IsValidNode nodes leaf within.valid valid; begun = begun_leaf nodes more leaf one is within.begun }, with_node format trees opened nodes leaf)

second : (format : Format) → is_second format ≡ true → format ≡ Two
second One h = absurd (false≢true h)
second Two h = refl

share_step : (format : Format) (trees : List Tree) (opened : OpenTree) (more tree : ℕ) → IsWithin format trees opened [] more → tree < 2 ^ 32
    → IfSome (if may_share format trees tree then Some (Between format (trees ++ closed opened (body.Same tree) ∷ [])) else None) (LeadsTo (Within format trees opened [] more) (line.Same tree))
share_step format trees opened more tree within small =
    cond_both (may_share format trees tree) _ _ (λ (o : Option Progress). IfSome o (LeadsTo (Within format trees opened [] more) (line.Same tree))) (λ h.
    let parts = and_parts (is_second format) (has_nodes (body_at trees tree)) h in
    let made = closed_tree format trees opened (body.Same tree) within.here (second format parts.0, small, parts.1) in (
      trees_push format [] trees (closed opened (body.Same tree)) within.before made,
      closed_lines format trees opened (body.Same tree)
          ∙ sym (append_assoc (line.Head format ∷ flat_map tree_lines trees) (line.Tree opened.shape opened.policy ∷ []) (line.Same tree ∷ [])),
    )) (λ _. tt)

begun_none : IsBegun [] 0
begun_none [] count = absurd (omega arith)
begun_none (one ∷ []) count = (one, sym (append-nil (preorder one)))
begun_none (one ∷ other ∷ others) count = absurd (omega arith)

pub step : (number : ℕ) (place : Progress) (l : ProofLine) → IsPlace place → IsValidLine l → number ≡ length (place_lines place) + 1 → IfSome (next number place l) (LeadsTo place l)
step number Start (line.Head format) is valid counted = (tt, refl)
step number (Between format trees) (line.Tree shape policy) is valid counted =
    (record { before = is; here = record { shape = valid.0; policy = valid.1; line = omega arith }; valid = All-nil IsValidNode; begun = begun_none }, refl)
step number (Between format trees) line.End is valid counted = (record { trees = is; last_line = omega arith }, refl)
step number (Within format trees opened nodes more) (line.Node (node.Split atom)) is valid counted =
    (record { before = is.before; here = is.here; valid = All-push IsValidNode nodes (node.Split atom) is.valid valid; begun = begun_split nodes more atom is.begun }, with_node format trees opened nodes (node.Split atom))
step number (Within format trees opened nodes more) (line.Node (node.Blocked policy)) is valid counted =
    leaf_step format trees opened nodes more (node.Blocked policy) (IsBlocked policy) refl is valid (λ m. branches_behind m (node.Blocked policy)) refl (λ m. refl)
step number (Within format trees opened nodes more) (line.Node node.Met) is valid counted =
    leaf_step format trees opened nodes more node.Met IsMet refl is valid (λ m. branches_behind m node.Met) refl (λ m. refl)
step number (Within format trees opened [] more) (line.Same tree) is valid counted = share_step format trees opened more tree is valid
step number place l is valid counted = tt

sum : (n m : ℕ) → n + 1 + m ≡ n + suc m
sum n m = omega arith

pub run-append : (number : ℕ) (place : Progress) (front back : List ProofLine) → run number place (front ++ back) ≡ option_and_then (λ p. run (number + length front) p back) (run number place front)
run-append number place [] back = ap (λ n. run n place back) (omega arith)
run-append number place (l ∷ front) back =
    elim (next number place l) as (λ (o : Option Progress). option_and_then (λ p. run (number + 1) p (front ++ back)) o
    ≡ option_and_then (λ p. run (number + length (l ∷ front)) p back) (option_and_then (λ p. run (number + 1) p front) o)) [
      | None ↦ refl
      | Some p ↦ run-append (number + 1) p front back ∙ ap (λ (n : ℕ). option_and_then (λ q. run n q back) (run (number + 1) p front)) (sum number (length front))
    ]

-- a line that can stand leads from a place that is reached to one that is reached
pub reached : (number : ℕ) (place after : Progress) (l : ProofLine) → IsReached place → IsValidLine l → number ≡ length (place_lines place) + 1 → next number place l ≡ Some after
    → IsReached after × (place_lines after ≡ place_lines place ++ l ∷ [])
reached number place after l is valid counted found =
    let leads = subst (λ (o : Option Progress). IfSome o (LeadsTo place l)) found (step number place l is.valid valid counted) in
    let led = ap (run 1 Start) leads.1 ∙ run-append 1 Start (place_lines place) (l ∷ []) ∙ ap (option_and_then (λ p. run (1 + length (place_lines place)) p (l ∷ []))) is.run
    ∙ ap (λ n. run n place (l ∷ [])) (let e : 1 + length (place_lines place) ≡ number = omega arith in e) ∙ ap (option_and_then (λ p. run (number + 1) p [])) found in
    (record { valid = leads.0; run = led }, leads.1)
