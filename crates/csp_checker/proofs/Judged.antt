-- The answers about one tree: of its own nodes, and of nodes that it shares.
use Rattle.std.proofs.Common.{arith, refl, ◌≡◌, ◌∙◌, sym, ap, subst, ℕ, ◌+◌, ◌<◌, ◌≤◌, ◌^◌, suc, Bool, true, false, List, [], ◌∷◌, length, take, get_or, ◌⊎◌, inl, inr, zero}
use Rattle.std.specs.Prelude.{Option, Some, None, IsTrue, All, Contains, slice_get}
use Rattle.std.specs.Option.{option_map}
use Rattle.std.proofs.lemmas.List.{length-map}
use Rattle.std.proofs.lemmas.List.Elements.{All-weaker}
use Rattle.std.proofs.lemmas.Option.{slice_get-map, slice_get-get_or, same_Some}
use Rattle.csp_facts.specs.declared.atom.Atom.{Atom}
use Rattle.csp_facts.specs.Shapes.{is_shape}
use Rattle.csp_branch.specs.Paths.{Path}
use Rattle.csp_answer.specs.Tables.{AreAnswers}
use Rattle.csp_proof.specs.Accepts.{Lists, hashes_in, cases_in, bad_tree, at_line, bad_body, bad_shared, for_pair, first_bad_node}
use Rattle.csp_proof.specs.Pairs.{Pair}
use Rattle.csp_proof.specs.Spelling.{tree_lines, body_lines}
use Rattle.csp_proof.specs.WellFormed.{IsPreorder, IsBody, IsTree, body_at}
use Rattle.csp_proof.specs.declared.proof.Body.{Body}
use Rattle.csp_proof.specs.declared.proof.Body.TheVariants as body
use Rattle.csp_proof.specs.declared.proof.Format.{Format}
use Rattle.csp_proof.specs.declared.proof.Node.{Node}
use Rattle.csp_proof.specs.declared.proof.Tree.{Tree}
use Rattle.csp_checker.specs.PreparedClaim.{Fits, IsAsked, IsFor, IsReached, AreKept, bad_in, bad_line, due, numbered, numbers_fit, lists_of, trees_of}
use Rattle.csp_checker.specs.Checked.{Claim}
use Rattle.csp_checker.specs.Leaves.{rule_by, rule_for}
use Rattle.csp_branch.specs.Walks.{Position, at_root}
use Rattle.csp_checker.specs.Walk.{Takes, atoms_below, atoms_of, walk}
use Rattle.csp_checker.specs.declared.prepared_claim.PreparedClaim.{PreparedClaim}
use Rattle.csp_checker.specs.declared.prepared_claim.NumberedPair.{NumberedPair}
use Rattle.csp_checker.proofs.Formed.{all_at, stands, lines_fit, shared_before}
use Rattle.csp_checker.proofs.Law.{tree_walk, walk_alike}
use Rattle.csp_checker.proofs.Lines.{none_from, none_at, from_line}
use Rattle.csp_checker.proofs.PairsMade.{all_listed}
use Rattle.csp_checker.proofs.Tables.{told}
use Rattle.csp_checker.proofs.Whole.{parts_of, for_it}

-- the walk by a table's answers answers for each pair that the tree is for
pub judged : (asked : PreparedClaim) (walker : Position) → Fits asked walker → (pair : Pair) (tree : Tree) → IsFor pair tree → (nodes : List Node) → IsPreorder nodes
    → walk (rule_by walker.atoms asked tree) 0 ([] ∷ []) nodes ≡ bad_tree (lists_of asked) pair 0 (cases_in nodes)
judged asked walker fit pair tree for nodes pre =
    walk_alike (rule_by walker.atoms asked tree) (rule_for (lists_of asked) pair) 0 ([] ∷ []) nodes (λ i d inside. told asked walker fit pair tree for (get_or nodes i d))
    ∙ tree_walk (lists_of asked) pair 0 nodes pre

-- the rule of a node by what the branch tells, where a walker that stood elsewhere has come to
pub rule_here : (asked : PreparedClaim) (tree : Tree) (n : Node) (branch : Path) (walker first : Position) (keeps : Bool) → branch ≡ record { atoms = walker.atoms; literals = walker.literals }
    → at_root walker ≡ at_root first → keeps ≡ rule_by branch.atoms asked tree branch.literals n → rule_by first.atoms asked tree walker.literals n ≡ keeps
rule_here asked tree n branch walker first keeps is kept told =
    ap (λ (names : List Atom). rule_by names asked tree walker.literals n) (sym (ap (λ (w : Position). w.atoms) kept))
    ∙ ap (λ (p : Path). rule_by p.atoms asked tree p.literals n) (sym is)
    ∙ sym told

-- a walker fits wherever it stands
pub takes_kept : (one other : Position) (atoms : List Atom) → at_root one ≡ at_root other → Takes other atoms → Takes one atoms
takes_kept one other atoms same takes = record {
  named = subst (λ (w : Position). All (Contains w.atoms) atoms) (sym same) takes.named;
  room = subst (λ (w : Position). length atoms ≤ w.room) (sym same) takes.room;
}

pub fit_kept : (asked : PreparedClaim) (one other : Position) → at_root one ≡ at_root other → Fits asked other → Fits asked one
fit_kept asked one other same fit =
    let hashes = hashes_in (lists_of asked) in
    record {
      first = subst (λ (w : Position). AreAnswers w.atoms hashes asked.first.now.policies asked.table.first) (sym same) fit.first;
      second = subst (λ (w : Position). AreAnswers w.atoms hashes asked.second.now.policies asked.table.second) (sym same) fit.second;
      trees = All-weaker (λ (tree : Tree). Takes other (atoms_below tree.body)) (λ (tree : Tree). Takes one (atoms_below tree.body))
          (λ tree takes. takes_kept one other (atoms_below tree.body) same takes) (trees_of asked) fit.trees;
    }

-- the tree of a number may stand there
pub tree_stands : (asked : PreparedClaim) → IsAsked asked → (n : ℕ) (tree : Tree) → slice_get (trees_of asked) n ≡ Some tree → IsTree asked.proof.now.format (take n (trees_of asked)) tree
tree_stands asked is n tree there = stands asked.proof.now.format (trees_of asked) is.formed.trees n tree there

-- its last line has a number
pub lines_within : (asked : PreparedClaim) → IsAsked asked → (n : ℕ) (tree : Tree) → slice_get (trees_of asked) n ≡ Some tree → tree.line + length (tree_lines tree) < 2 ^ 128
lines_within asked is n tree there =
    let own = (tree_stands asked is n tree there).line in
    let fit = lines_fit (trees_of asked) n tree there in
    omega (arith, own, fit, is.lines, is.formed.last_line)

body_count : (nodes : List Node) → length (body_lines (body.Nodes nodes)) ≡ length nodes
body_count [] = refl
body_count (n ∷ nodes) = ap suc (body_count nodes)

nodes_fit : (tree : Tree) (nodes : List Node) → tree.body ≡ body.Nodes nodes → length (tree_lines tree) ≡ length nodes + 1
nodes_fit tree nodes has =
    let e = ap (λ (b : Body). length (tree_lines (record tree { body = b }))) has in
    e ∙ (let l = body_count nodes in omega arith)

pub preorder_of : (format : Format) (before : List Tree) (b : Body) (nodes : List Node) → b ≡ body.Nodes nodes → IsBody format before b → IsPreorder nodes
preorder_of format before b nodes has is = (subst (IsBody format before) has is).0

-- every pair's shape is one
pub pair_listed : (asked : PreparedClaim) (n : ℕ) (pair : Pair) → slice_get (due asked.second.now) n ≡ Some pair → IsTrue (is_shape pair.shape)
pair_listed asked n pair there = all_at (λ (p : Pair). IsTrue (is_shape p.shape)) (due asked.second.now) n pair (all_listed asked.second.now) there

-- nodes that are shared stand before the tree
pub stands_before : (asked : PreparedClaim) → IsAsked asked → (count : ℕ) (tree : Tree) → IsReached asked count tree → (n : ℕ) → tree.body ≡ body.Same n → n < count
stands_before asked is count tree reached n shares =
    let format = asked.proof.now.format in
    let own = subst (IsBody format (take count (trees_of asked))) shares (tree_stands asked is count tree reached.there).body in
    shared_before (trees_of asked) count n own.2

-- it can take the splits of the nodes of each tree
pub takes_nodes : (asked : PreparedClaim) (walker : Position) → Fits asked walker → (n : ℕ) (tree : Tree) (nodes : List Node) → slice_get (trees_of asked) n ≡ Some tree → tree.body ≡ body.Nodes nodes
    → Takes walker (atoms_of nodes)
takes_nodes asked walker fit n tree nodes there has =
    subst (λ (b : Body). Takes walker (atoms_below b)) has (all_at (λ (t : Tree). Takes walker (atoms_below t.body)) (trees_of asked) n tree fit.trees there)

-- what a shared body comes to

pub shares_nodes : (lists : Lists) (trees : List Tree) (pair : Pair) (line n : ℕ) (other : Tree) (nodes : List Node) → slice_get trees n ≡ Some other → other.body ≡ body.Nodes nodes
    → bad_shared lists pair line (body_at trees n) ≡ at_line line (bad_tree lists pair line (cases_in nodes))
shares_nodes lists trees pair line n other nodes there has =
    ap (λ (o : Option Tree). bad_shared lists pair line (option_map (λ (t : Tree). t.body) o)) there ∙ ap (λ (b : Body). bad_shared lists pair line (Some b)) has

pub shares_good : (lists : Lists) (trees : List Tree) (pair : Pair) (line n : ℕ) (other : Tree) (nodes : List Node) → slice_get trees n ≡ Some other → other.body ≡ body.Nodes nodes
    → bad_tree lists pair 0 (cases_in nodes) ≡ None → bad_shared lists pair line (body_at trees n) ≡ None
shares_good lists trees pair line n other nodes there has good =
    shares_nodes lists trees pair line n other nodes there has ∙ none_at line (bad_tree lists pair line (cases_in nodes)) (none_from lists pair line (cases_in nodes) good)

at_some : (line : ℕ) (o : Option ℕ) (n : ℕ) → o ≡ Some n → at_line line o ≡ Some line
at_some line o n is = ap (at_line line) is

pub shares_bad : (lists : Lists) (trees : List Tree) (pair : Pair) (line n : ℕ) (other : Tree) (nodes : List Node) (place : ℕ) → slice_get trees n ≡ Some other → other.body ≡ body.Nodes nodes
    → bad_tree lists pair 0 (cases_in nodes) ≡ Some place → bad_shared lists pair line (body_at trees n) ≡ Some line
shares_bad lists trees pair line n other nodes place there has bad =
    shares_nodes lists trees pair line n other nodes there has
    ∙ at_some line (bad_tree lists pair line (cases_in nodes)) (line + place) (from_line lists pair line (cases_in nodes) ∙ ap (option_map (λ (m : ℕ). line + m)) bad)

-- what a tree's own nodes come to

pub pre_for : (asked : PreparedClaim) → IsAsked asked → (n : ℕ) (tree : Tree) (nodes : List Node) → slice_get (trees_of asked) n ≡ Some tree → tree.body ≡ body.Nodes nodes → IsPreorder nodes
pre_for asked is n tree nodes there has = preorder_of asked.proof.now.format (take n (trees_of asked)) tree.body nodes has (tree_stands asked is n tree there).body

pub own_bad : (lists : Lists) (trees : List Tree) (pair : Pair) (tree : Tree) (nodes : List Node) (place : ℕ) → tree.body ≡ body.Nodes nodes
    → Some place ≡ bad_tree lists pair 0 (cases_in nodes) → Some (tree.line + 1 + place) ≡ bad_body lists trees pair (tree.line + 1) tree.body
own_bad lists trees pair tree nodes place has bad =
    ap (option_map (λ (n : ℕ). tree.line + 1 + n)) bad
    ∙ sym (ap (bad_body lists trees pair (tree.line + 1)) has ∙ from_line lists pair (tree.line + 1) (cases_in nodes))

pub own_good : (lists : Lists) (trees : List Tree) (pair : Pair) (tree : Tree) (nodes : List Node) → tree.body ≡ body.Nodes nodes
    → None ≡ bad_tree lists pair 0 (cases_in nodes) → None ≡ bad_body lists trees pair (tree.line + 1) tree.body
own_good lists trees pair tree nodes has good =
    sym (ap (bad_body lists trees pair (tree.line + 1)) has ∙ none_from lists pair (tree.line + 1) (cases_in nodes) (sym good))

-- the lines of a tree have numbers

pub nodes_within : (asked : PreparedClaim) → IsAsked asked → (n : ℕ) (tree : Tree) (nodes : List Node) → slice_get (trees_of asked) n ≡ Some tree → tree.body ≡ body.Nodes nodes → tree.line + 1 + length nodes < 2 ^ 128
nodes_within asked is n tree nodes there has = omega (arith, lines_within asked is n tree there, nodes_fit tree nodes has)

pub shares_within : (asked : PreparedClaim) → IsAsked asked → (n : ℕ) (tree : Tree) → slice_get (trees_of asked) n ≡ Some tree → tree.line + 1 < 2 ^ 128
shares_within asked is n tree there = by tree.body refl where
  by : (b : Body) → tree.body ≡ b → tree.line + 1 < 2 ^ 128
  by (body.Nodes nodes) has = omega (arith, nodes_within asked is n tree nodes there has)
  by (body.Same m) has =
      let count = ap (λ (b : Body). length (tree_lines (record tree { body = b }))) has in
      omega (arith, lines_within asked is n tree there, count)

-- the pair that a tree has to be for

pub due_at : (asked : PreparedClaim) → IsAsked asked → (n : ℕ) (found : NumberedPair) → Some found ≡ slice_get asked.pairs.items n
    → (pair : Pair) × (slice_get (due asked.second.now) n ≡ Some pair) × (numbered pair ≡ found)
due_at asked is n found there = by (slice_get (due asked.second.now) n) refl (there ∙ ap (λ (ps : List NumberedPair). slice_get ps n) is.pairs ∙ slice_get-map numbered (due asked.second.now) n) where
  by : (o : Option Pair) → slice_get (due asked.second.now) n ≡ o → Some found ≡ option_map numbered o → (pair : Pair) × (slice_get (due asked.second.now) n ≡ Some pair) × (numbered pair ≡ found)
  by None at e = cc e
  by (Some pair) at e = (pair, at, sym (same_Some found (numbered pair) e))

pub none_pair : (asked : PreparedClaim) → IsAsked asked → (n : ℕ) → None ≡ slice_get asked.pairs.items n → slice_get (due asked.second.now) n ≡ None
none_pair asked is n there = by (slice_get (due asked.second.now) n) (there ∙ ap (λ (ps : List NumberedPair). slice_get ps n) is.pairs ∙ slice_get-map numbered (due asked.second.now) n) where
  by : (o : Option Pair) → None ≡ option_map numbered o → o ≡ None
  by None e = refl
  by (Some pair) e = cc e

pub as_many_pairs : (asked : PreparedClaim) → IsAsked asked → length asked.pairs.items ≡ length (due asked.second.now)
as_many_pairs asked is = ap length is.pairs ∙ length-map (due asked.second.now) numbered

pub due_for : (asked : PreparedClaim) → IsAsked asked → (n : ℕ) (found : NumberedPair) (pair : Pair) (tree : Tree) → slice_get (due asked.second.now) n ≡ Some pair → numbered pair ≡ found
    → true ≡ numbers_fit found tree → IsFor pair tree
due_for asked is n found pair tree there same fits =
    let parts = parts_of pair tree (ap (λ (np : NumberedPair). numbers_fit np tree) same ∙ sym fits) in
    record { listed = pair_listed asked n pair there; shape = parts.0; policy = parts.1 }

pub good_in : (asked : PreparedClaim) (n : ℕ) (pair : Pair) (tree : Tree) (answer : Option ℕ) → slice_get (due asked.second.now) n ≡ Some pair → IsFor pair tree
    → answer ≡ bad_body (lists_of asked) (trees_of asked) pair (tree.line + 1) tree.body → answer ≡ bad_in (lists_of asked) (trees_of asked) (slice_get (due asked.second.now) n) tree
good_in asked n pair tree answer there for is =
    is ∙ sym (ap (λ (o : Option Pair). bad_in (lists_of asked) (trees_of asked) o tree) there ∙ for_it pair tree (bad_body (lists_of asked) (trees_of asked) pair (tree.line + 1) tree.body) for.shape for.policy)

pub not_for : (asked : PreparedClaim) (n : ℕ) (found : NumberedPair) (pair : Pair) (tree : Tree) → slice_get (due asked.second.now) n ≡ Some pair → numbered pair ≡ found → false ≡ numbers_fit found tree
    → Some tree.line ≡ bad_in (lists_of asked) (trees_of asked) (slice_get (due asked.second.now) n) tree
not_for asked n found pair tree there same fits =
    sym (ap (λ (o : Option Pair). bad_in (lists_of asked) (trees_of asked) o tree) there
    ∙ ap (λ (b : Bool). for_pair b tree (bad_body (lists_of asked) (trees_of asked) pair (tree.line + 1) tree.body)) (ap (λ (np : NumberedPair). numbers_fit np tree) same ∙ sym fits))

pub none_for : (asked : PreparedClaim) (n : ℕ) (tree : Tree) → slice_get (due asked.second.now) n ≡ None → Some tree.line ≡ bad_in (lists_of asked) (trees_of asked) (slice_get (due asked.second.now) n) tree
none_for asked n tree none = sym (ap (λ (o : Option Pair). bad_in (lists_of asked) (trees_of asked) o tree) none)

lt_or_same : (k n : ℕ) → k < n + 1 → (k < n) ⊎ (k ≡ n)
lt_or_same zero zero below = inr refl
lt_or_same zero (suc n) below = inl (omega arith)
lt_or_same (suc k) zero below = absurd (omega arith)
lt_or_same (suc k) (suc n) below = elim (lt_or_same k n (omega arith)) [ inl less ↦ inl (omega (arith, less)) | inr same ↦ inr (ap suc same) ]

pub kept_more : (asked : PreparedClaim) (n : ℕ) (tree : Tree) → AreKept asked n → slice_get (trees_of asked) n ≡ Some tree
    → bad_in (lists_of asked) (trees_of asked) (slice_get (due asked.second.now) n) tree ≡ None → AreKept asked (n + 1)
kept_more asked n tree kept there good k own below here =
    elim (lt_or_same k n below) [
      | inl less ↦ kept k own less here
      | inr same ↦
          let e : own ≡ tree = same_Some own tree (sym here ∙ ap (slice_get (trees_of asked)) same ∙ there) in
          subst (λ (t : Tree). bad_in (lists_of asked) (trees_of asked) (slice_get (due asked.second.now) k) t ≡ None) (sym e)
          (subst (λ (m : ℕ). bad_in (lists_of asked) (trees_of asked) (slice_get (due asked.second.now) m) tree ≡ None) (sym same) good)
    ]

pub first_bad_is : (asked : PreparedClaim) → bad_line asked ≡ first_bad_node asked.first.now asked.second.now asked.proof.now
unfolding due
first_bad_is asked = refl

pub first_bad_claim : (asked : PreparedClaim) (claim : Claim) → record { first = asked.first.now; second = asked.second.now; proof = asked.proof.now } ≡ claim
    → bad_line asked ≡ first_bad_node claim.first claim.second claim.proof
first_bad_claim asked claim same = first_bad_is asked ∙ ap (λ (told : Claim). first_bad_node told.first told.second told.proof) same

pub tree_here : (asked : PreparedClaim) (trees : List Tree) (n : ℕ) (tree : Tree) → trees ≡ trees_of asked → n < length trees → tree ≡ get_or trees n tree → slice_get (trees_of asked) n ≡ Some tree
tree_here asked trees n tree same inside is =
    ap (λ (ts : List Tree). slice_get ts n) (sym same) ∙ slice_get-get_or trees n tree inside ∙ ap Some (sym is)
