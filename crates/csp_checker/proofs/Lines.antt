-- A walk that counts from another line finds the same node, and where policies say the same the same is found.
use Rattle.std.proofs.Common.{◌≡◌, ◌∙◌, sym, ap, ℕ, ◌+◌, Bool, true, false, refl, List, [], ◌∷◌, ◌++◌, length, Option, Some, None, arith, All}
use Rattle.std.specs.Option.{option_map}
use Rattle.csp_facts.specs.declared.atom.Literal.{Literal}
use Rattle.csp_proof.specs.Accepts.{Lists, blocks, is_met, literal, unless, first_of, bad_case, bad_tree, at_line, cases_in}
use Rattle.csp_proof.specs.Pairs.{Pair}
use Rattle.csp_proof.specs.WellFormed.{Cases, Splits, IsBlocked, IsMet, preorder, IsPreorder}
use Rattle.csp_proof.specs.declared.proof.Node.{Node}
use Rattle.csp_checker.specs.Leaves.{rule_for}
use Rattle.csp_checker.proofs.Law.{TellTheSame, tree_walk, walk_alike}

abbrev further : ℕ → Option ℕ → Option ℕ
further line o = option_map (λ (n : ℕ). line + n) o

first_further : (line : ℕ) (x y : Option ℕ) → first_of (further line x) (further line y) ≡ further line (first_of x y)
first_further line (Some n) y = refl
first_further line None y = refl

unless_further : (b : Bool) (line k : ℕ) → unless b (line + k) ≡ further line (unless b k)
unless_further true line k = refl
unless_further false line k = refl

case_further : (lists : Lists) (pair : Pair) (ls : List Literal) (line k : ℕ) (cases : Cases) → bad_case lists pair ls (line + k) cases ≡ further line (bad_case lists pair ls k cases)
case_further lists pair ls line k (Splits a t u) =
    let holds = ls ++ literal a true ∷ [] in
    let fails = ls ++ literal a false ∷ [] in
    let one : line + k + 1 ≡ line + (k + 1) = omega arith in
    let other : line + k + 1 + length (preorder t) ≡ line + (k + 1 + length (preorder t)) = omega arith in
    ap (λ n. first_of (bad_case lists pair holds n t) (bad_case lists pair fails (line + k + 1 + length (preorder t)) u)) one
    ∙ ap (λ n. first_of (bad_case lists pair holds (line + (k + 1)) t) (bad_case lists pair fails n u)) other
    ∙ ap (λ o. first_of o (bad_case lists pair fails (line + (k + 1 + length (preorder t))) u)) (case_further lists pair holds line (k + 1) t)
    ∙ ap (first_of (further line (bad_case lists pair holds (k + 1) t))) (case_further lists pair fails line (k + 1 + length (preorder t)) u)
    ∙ first_further line (bad_case lists pair holds (k + 1) t) (bad_case lists pair fails (k + 1 + length (preorder t)) u)
case_further lists pair ls line k (IsBlocked policy) = unless_further (blocks lists pair ls policy) line k
case_further lists pair ls line k IsMet = unless_further (is_met lists pair ls) line k

tree_further : (lists : Lists) (pair : Pair) (line k : ℕ) (trees : List Cases) → bad_tree lists pair (line + k) trees ≡ further line (bad_tree lists pair k trees)
tree_further lists pair line k [] = refl
tree_further lists pair line k (cases ∷ others) = case_further lists pair [] line k cases

-- counted from 0 there is the place, which the line goes on to
pub from_line : (lists : Lists) (pair : Pair) (line : ℕ) (trees : List Cases) → bad_tree lists pair line trees ≡ option_map (λ (n : ℕ). line + n) (bad_tree lists pair 0 trees)
from_line lists pair line trees =
    let e : line ≡ line + 0 = omega arith in
    ap (λ n. bad_tree lists pair n trees) e ∙ tree_further lists pair line 0 trees

pub none_from : (lists : Lists) (pair : Pair) (line : ℕ) (trees : List Cases) → bad_tree lists pair 0 trees ≡ None → bad_tree lists pair line trees ≡ None
none_from lists pair line trees none = from_line lists pair line trees ∙ ap (option_map (λ (n : ℕ). line + n)) none

lifted : (line : ℕ) (o : Option ℕ) → further line o ≡ None → o ≡ None
lifted line None none = refl
lifted line (Some n) none = cc none

pub none_at_all : (lists : Lists) (pair : Pair) (line : ℕ) (trees : List Cases) → bad_tree lists pair line trees ≡ None → bad_tree lists pair 0 trees ≡ None
none_at_all lists pair line trees none = lifted line (bad_tree lists pair 0 trees) (sym (from_line lists pair line trees) ∙ none)

-- nodes that keep the rules of a pair keep those of each pair that is told the same of them
pub judged_alike : (lists : Lists) (one other : Pair) (nodes : List Node) → IsPreorder nodes → All (TellTheSame (rule_for lists one) (rule_for lists other)) nodes
    → bad_tree lists one 0 (cases_in nodes) ≡ bad_tree lists other 0 (cases_in nodes)
judged_alike lists one other nodes is same =
    sym (tree_walk lists one 0 nodes is) ∙ walk_alike (rule_for lists one) (rule_for lists other) 0 ([] ∷ []) nodes same ∙ tree_walk lists other 0 nodes is

pub none_at : (line : ℕ) (o : Option ℕ) → o ≡ None → at_line line o ≡ None
none_at line o is = ap (at_line line) is
