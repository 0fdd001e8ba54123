-- The walk over the nodes of a tree is the recursion on its cases.
use Rattle.std.proofs.Common.{◌≡◌, ◌∙◌, sym, ap, ℕ, ◌+◌, Bool, true, false, refl, List, [], ◌∷◌, ◌++◌, length, Option, Some, None, arith, append_assoc, length-append, append-nil, All}
use Rattle.std.proofs.lemmas.List.Elements.{All-head, All-tail}
use Rattle.csp_facts.specs.declared.atom.Literal.{Literal}
use Rattle.csp_proof.specs.Accepts.{Lists, blocks, is_met, unless, first_of, bad_case, bad_tree, cases_in}
use Rattle.csp_proof.specs.Pairs.{Pair}
use Rattle.csp_proof.specs.WellFormed.{Cases, Splits, IsBlocked, IsMet, preorder, IsPreorder}
use Rattle.csp_proof.specs.declared.proof.Node.{Node}
use Rattle.csp_proof.specs.declared.proof.Node.TheVariants as node
use Rattle.csp_proof.proofs.CasesRead.{cases_back}
use Rattle.csp_checker.specs.Leaves.{rule_for}
use Rattle.csp_branch.specs.Walks.{with}
use Rattle.csp_checker.specs.Walk.{unless_first, walk}

-- the first of two failures

unless_is : (b : Bool) (place : ℕ) (rest : Option ℕ) → unless_first b place rest ≡ first_of (unless b place) rest
unless_is true place rest = refl
unless_is false place rest = refl

first_of-assoc : (x y z : Option ℕ) → first_of (first_of x y) z ≡ first_of x (first_of y z)
first_of-assoc (Some n) y z = refl
first_of-assoc None y z = refl

first_of-none : (x : Option ℕ) → first_of x None ≡ x
first_of-none (Some n) = refl
first_of-none None = refl

walk_cases : (lists : Lists) (pair : Pair) (line : ℕ) (ls : List Literal) (to_come : List (List Literal)) (cases : Cases) (rest : List Node)
    → walk (rule_for lists pair) line (ls ∷ to_come) (preorder cases ++ rest)
    ≡ first_of (bad_case lists pair ls line cases) (walk (rule_for lists pair) (line + length (preorder cases)) to_come rest)
walk_cases lists pair line ls to_come (Splits a t u) rest =
    let rule = rule_for lists pair in
    let e : line + 1 + length (preorder t) + length (preorder u) ≡ line + length (preorder (Splits a t u)) = omega (arith, length-append (preorder t) (preorder u)) in
    ap (walk rule (line + 1) (with ls a true ∷ with ls a false ∷ to_come)) (append_assoc (preorder t) (preorder u) rest)
    ∙ walk_cases lists pair (line + 1) (with ls a true) (with ls a false ∷ to_come) t (preorder u ++ rest)
    ∙ ap (first_of (bad_case lists pair (with ls a true) (line + 1) t)) (walk_cases lists pair (line + 1 + length (preorder t)) (with ls a false) to_come u rest)
    ∙ sym (first_of-assoc (bad_case lists pair (with ls a true) (line + 1) t) (bad_case lists pair (with ls a false) (line + 1 + length (preorder t)) u)
    (walk rule (line + 1 + length (preorder t) + length (preorder u)) to_come rest))
    ∙ ap (λ n. first_of (bad_case lists pair ls line (Splits a t u)) (walk rule n to_come rest)) e
walk_cases lists pair line ls to_come (IsBlocked policy) rest =
    unless_is (blocks lists pair ls policy) line (walk (rule_for lists pair) (line + 1) to_come rest)
walk_cases lists pair line ls to_come IsMet rest =
    unless_is (is_met lists pair ls) line (walk (rule_for lists pair) (line + 1) to_come rest)

case_walk : (lists : Lists) (pair : Pair) (line : ℕ) (cases : Cases) → walk (rule_for lists pair) line ([] ∷ []) (preorder cases) ≡ bad_case lists pair [] line cases
case_walk lists pair line cases =
    ap (walk (rule_for lists pair) line ([] ∷ [])) (sym (append-nil (preorder cases)))
    ∙ walk_cases lists pair line [] [] cases []
    ∙ first_of-none (bad_case lists pair [] line cases)

-- the walk over nodes that are a tree
pub tree_walk : (lists : Lists) (pair : Pair) (line : ℕ) (nodes : List Node) → IsPreorder nodes → walk (rule_for lists pair) line ([] ∷ []) nodes ≡ bad_tree lists pair line (cases_in nodes)
tree_walk lists pair line nodes is =
    ap (walk (rule_for lists pair) line ([] ∷ [])) (sym is.1)
    ∙ case_walk lists pair line is.0
    ∙ sym (ap (bad_tree lists pair line) (ap cases_in (sym is.1) ∙ cases_back is.0))

-- two rules tell the same of a node, whatever literals lead to it
abbrev pub TellTheSame : (List Literal → Node → Bool) → (List Literal → Node → Bool) → Node → Type 0
TellTheSame one other n = (ls : List Literal) → one ls n ≡ other ls n

-- by rules that tell the same of each node the same is found
pub walk_alike : (one other : List Literal → Node → Bool) (place : ℕ) (cases : List (List Literal)) (nodes : List Node) → All (TellTheSame one other) nodes
    → walk one place cases nodes ≡ walk other place cases nodes
walk_alike one other place cases [] same = refl
walk_alike one other place [] (n ∷ nodes) same = refl
walk_alike one other place (ls ∷ cases) (node.Split atom ∷ nodes) same =
    walk_alike one other (place + 1) (with ls atom true ∷ with ls atom false ∷ cases) nodes (All-tail (TellTheSame one other) (node.Split atom) nodes same)
walk_alike one other place (ls ∷ cases) (node.Blocked policy ∷ nodes) same =
    ap (λ (b : Bool). unless_first b place (walk one (place + 1) cases nodes)) (All-head (TellTheSame one other) (node.Blocked policy) nodes same ls)
    ∙ ap (unless_first (other ls (node.Blocked policy)) place) (walk_alike one other (place + 1) cases nodes (All-tail (TellTheSame one other) (node.Blocked policy) nodes same))
walk_alike one other place (ls ∷ cases) (node.Met ∷ nodes) same =
    ap (λ (b : Bool). unless_first b place (walk one (place + 1) cases nodes)) (All-head (TellTheSame one other) node.Met nodes same ls)
    ∙ ap (unless_first (other ls node.Met) place) (walk_alike one other (place + 1) cases nodes (All-tail (TellTheSame one other) node.Met nodes same))
