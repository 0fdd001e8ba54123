-- One tree of a whole proof, what is left behind it, and nodes that are shared.
use Rattle.std.proofs.Common.{arith, refl, ◌≡◌, ◌∙◌, sym, ap, ℕ, ◌+◌, ◌<◌, ◌≤◌, zero, suc, Bool, true, false, nat_eq, List, [], ◌∷◌, length, drop}
use Rattle.std.specs.Prelude.{Option, Some, None, IsTrue, slice_get}
use Rattle.std.proofs.Math.ListN.{drop_of_length-le}
use Rattle.std.proofs.lemmas.Bool.{and_parts, eqb-true, eq-eqb, and_from}
use Rattle.std.proofs.lemmas.Option.{same_Some}
use Rattle.csp_facts.specs.Numbers.{number}
use Rattle.csp_facts.specs.Shapes.{is_shape}
use Rattle.csp_proof.specs.Accepts.{Lists, cases_in, bad_tree, first_of, bad_body, is_for, for_pair, bad_from}
use Rattle.csp_proof.specs.Pairs.{Pair}
use Rattle.csp_proof.specs.declared.proof.Body.TheVariants as body
use Rattle.csp_proof.specs.declared.proof.Node.{Node}
use Rattle.csp_proof.specs.declared.proof.Tree.{Tree}
use Rattle.csp_checker.specs.PreparedClaim.{IsFor, bad_in}
use Rattle.csp_checker.proofs.Lines.{none_at_all}

drop_nil : (k : ℕ) → drop {A = Pair} k [] ≡ []
drop_nil zero = refl
drop_nil (suc k) = refl

-- the first tree of those that are left, and the pair that it has to be for
one_tree : (lists : Lists) (all : List Tree) (last : ℕ) (ps : List Pair) (ts : List Tree) (k : ℕ) (tree : Tree) → slice_get ts k ≡ Some tree
    → bad_from lists all last (drop k ps) (drop k ts) ≡ first_of (bad_in lists all (slice_get ps k) tree) (bad_from lists all last (drop (suc k) ps) (drop (suc k) ts))
one_tree lists all last ps [] k tree is = cc is
one_tree lists all last [] (t ∷ ts) zero tree is = ap (λ (u : Tree). Some u.line) (same_Some t tree is)
one_tree lists all last (p ∷ ps) (t ∷ ts) zero tree is =
    ap (λ (u : Tree). first_of (bad_in lists all (Some p) u) (bad_from lists all last ps ts)) (same_Some t tree is)
one_tree lists all last [] (t ∷ ts) (suc k) tree is =
    ap (λ (qs : List Pair). bad_from lists all last qs (drop k ts)) (sym (drop_nil k)) ∙ one_tree lists all last [] ts k tree is
one_tree lists all last (p ∷ ps) (t ∷ ts) (suc k) tree is = one_tree lists all last ps ts k tree is

-- where something is bad in it, that is the first failure
pub stops : (lists : Lists) (all : List Tree) (last : ℕ) (ps : List Pair) (ts : List Tree) (k : ℕ) (tree : Tree) (line : ℕ) → slice_get ts k ≡ Some tree
    → bad_in lists all (slice_get ps k) tree ≡ Some line → bad_from lists all last (drop k ps) (drop k ts) ≡ Some line
stops lists all last ps ts k tree line is bad =
    one_tree lists all last ps ts k tree is ∙ ap (λ o. first_of o (bad_from lists all last (drop (suc k) ps) (drop (suc k) ts))) bad

-- where nothing is, the rest decides
pub goes_on : (lists : Lists) (all : List Tree) (last : ℕ) (ps : List Pair) (ts : List Tree) (k : ℕ) (tree : Tree) → slice_get ts k ≡ Some tree
    → bad_in lists all (slice_get ps k) tree ≡ None → bad_from lists all last (drop (k + 1) ps) (drop (k + 1) ts) ≡ bad_from lists all last (drop k ps) (drop k ts)
goes_on lists all last ps ts k tree is good =
    let next : k + 1 ≡ suc k = omega arith in
    ap (λ n. bad_from lists all last (drop n ps) (drop n ts)) next
    ∙ sym (one_tree lists all last ps ts k tree is ∙ ap (λ o. first_of o (bad_from lists all last (drop (suc k) ps) (drop (suc k) ts))) good)

no_trees : (lists : Lists) (all : List Tree) (last : ℕ) (ps : List Pair) (k : ℕ) → k < length ps → bad_from lists all last (drop k ps) [] ≡ Some last
no_trees lists all last [] k inside = absurd (omega arith)
no_trees lists all last (p ∷ ps) zero inside = refl
no_trees lists all last (p ∷ ps) (suc k) inside = no_trees lists all last ps k (omega arith)

-- behind the last tree, where pairs are left
pub pairs_left : (lists : Lists) (all : List Tree) (last : ℕ) (ps : List Pair) (ts : List Tree) (k : ℕ) → length ts ≤ k → k < length ps → bad_from lists all last (drop k ps) (drop k ts) ≡ Some last
pairs_left lists all last ps ts k past inside =
    ap (bad_from lists all last (drop k ps)) (drop_of_length-le ts past) ∙ no_trees lists all last ps k inside

-- whether a tree is for a pair

pub for_it : (pair : Pair) (tree : Tree) (below : Option ℕ) → number pair.shape ≡ tree.shape → pair.policy ≡ tree.policy → for_pair (is_for pair tree) tree below ≡ below
for_it pair tree below shape policy =
    ap (λ b. for_pair b tree below) (and_from (nat_eq (number pair.shape) tree.shape) (nat_eq pair.policy tree.policy) (eq-eqb (number pair.shape) tree.shape shape) (eq-eqb pair.policy tree.policy policy))

pub passes : (b : Bool) (tree : Tree) (below : Option ℕ) → for_pair b tree below ≡ None → (b ≡ true) × (below ≡ None)
passes true tree below good = (refl, good)
passes false tree below good = cc good

pub parts_of : (pair : Pair) (tree : Tree) → is_for pair tree ≡ true → (number pair.shape ≡ tree.shape) × (pair.policy ≡ tree.policy)
parts_of pair tree is =
    let both = and_parts (nat_eq (number pair.shape) tree.shape) (nat_eq pair.policy tree.policy) is in
    (eqb-true (number pair.shape) tree.shape both.0, eqb-true pair.policy tree.policy both.1)

-- nodes of a tree in which nothing is bad keep the rules of the tree's own pair
pub record KeptBy (lists : Lists) (tree : Tree) (nodes : List Node) : Type 0 where
  pub pair : Pair
  pub is : IsFor pair tree
  pub keeps : bad_tree lists pair 0 (cases_in nodes) ≡ None

pub kept_by : (lists : Lists) (all : List Tree) (o : Option Pair) (tree : Tree) (nodes : List Node) → ((pair : Pair) → o ≡ Some pair → IsTrue (is_shape pair.shape))
    → tree.body ≡ body.Nodes nodes → bad_in lists all o tree ≡ None → KeptBy lists tree nodes
kept_by lists all None tree nodes listed has good = cc good
kept_by lists all (Some pair) tree nodes listed has good =
    let both = passes (is_for pair tree) tree (bad_body lists all pair (tree.line + 1) tree.body) good in
    let parts = parts_of pair tree both.0 in
    record {
      pair = pair;
      is = record { listed = listed pair refl; shape = parts.0; policy = parts.1 };
      keeps = none_at_all lists pair (tree.line + 1) (cases_in nodes) (sym (ap (bad_body lists all pair (tree.line + 1)) has) ∙ both.1);
    }
