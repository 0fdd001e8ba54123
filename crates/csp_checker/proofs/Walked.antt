-- Nodes that keep the rules of an earlier tree's pair keep those of this tree's, where both ask the same.
use Rattle.std.proofs.Common.{refl, ◌≡◌, ◌∙◌, sym, ap, ℕ, ◌+◌, ◌<◌, Bool, true, false, List, get_or}
use Rattle.std.specs.Prelude.{Option, Some, None, IsTrue, slice_get}
use Rattle.std.specs.List.{list_all}
use Rattle.std.specs.Option.{option_map}
use Rattle.std.proofs.lemmas.Option.{slice_get-map, same_Some}
use Rattle.csp_facts.specs.Numbers.{number}
use Rattle.csp_facts.specs.Shapes.{is_shape}
use Rattle.csp_proof.specs.Accepts.{Lists, cases_in, bad_tree, at_line, bad_body, is_for}
use Rattle.csp_proof.specs.Pairs.{Pair}
use Rattle.csp_proof.specs.declared.proof.Body.TheVariants as body
use Rattle.csp_proof.specs.declared.proof.Node.{Node}
use Rattle.csp_proof.specs.declared.proof.Tree.{Tree}
use Rattle.csp_checker.specs.PreparedClaim.{IsAsked, IsFor, IsReached, KeepsFor, bad_in, due, lists_of, trees_of}
use Rattle.csp_checker.specs.declared.prepared_claim.PreparedClaim.{PreparedClaim}
use Rattle.csp_checker.proofs.Judged.{pair_listed, pre_for, shares_nodes}
use Rattle.csp_checker.proofs.Lines.{judged_alike, none_at_all}
use Rattle.csp_checker.proofs.Tables.{told_alike, unmet_alike}
use Rattle.csp_checker.proofs.Whole.{KeptBy, kept_by, parts_of, passes}
use Rattle.csp_checker.specs.Walk.{is_unmet, is_unmet_below}

nowhere : (line : ℕ) (o : Option ℕ) → at_line line o ≡ None → o ≡ None
nowhere line None none = refl
nowhere line (Some n) none = cc none

-- shared nodes of a tree in which nothing is bad keep the rules of the tree's own pair
kept_shared : (lists : Lists) (trees : List Tree) (o : Option Pair) (tree : Tree) (n : ℕ) (owner : Tree) (nodes : List Node)
    → ((pair : Pair) → o ≡ Some pair → IsTrue (is_shape pair.shape)) → tree.body ≡ body.Same n
    → slice_get trees n ≡ Some owner → owner.body ≡ body.Nodes nodes → bad_in lists trees o tree ≡ None → KeptBy lists tree nodes
kept_shared lists trees None tree n owner nodes listed shares there has good = cc good
kept_shared lists trees (Some pair) tree n owner nodes listed shares there has good =
    let both = passes (is_for pair tree) tree (bad_body lists trees pair (tree.line + 1) tree.body) good in
    let parts = parts_of pair tree both.0 in
    let none = sym (ap (bad_body lists trees pair (tree.line + 1)) shares ∙ shares_nodes lists trees pair (tree.line + 1) n owner nodes there has) ∙ both.1 in
    record {
      pair = pair;
      is = record { listed = listed pair refl; shape = parts.0; policy = parts.1 };
      keeps = none_at_all lists pair (tree.line + 1) (cases_in nodes) (nowhere (tree.line + 1) (bad_tree lists pair (tree.line + 1) (cases_in nodes)) none);
    }

-- the nodes that are for any policy, by what is kept of the trees
unmet_nodes : (asked : PreparedClaim) → IsAsked asked → (n : ℕ) (owner : Tree) (nodes : List Node) → slice_get (trees_of asked) n ≡ Some owner
    → owner.body ≡ body.Nodes nodes → slice_get asked.unmet.items n ≡ Some true → list_all is_unmet nodes ≡ true
unmet_nodes asked is n owner nodes there has any =
    let told = ap (λ (bs : List Bool). slice_get bs n) is.unmet ∙ slice_get-map (λ (tree : Tree). is_unmet_below tree.body) (trees_of asked) n
    ∙ ap (option_map (λ (tree : Tree). is_unmet_below tree.body)) there in
    sym (ap is_unmet_below has) ∙ same_Some (is_unmet_below owner.body) true (sym told ∙ any)

-- what keeps the rules of one pair keeps those of the other, where the same is asked
alike : (asked : PreparedClaim) → IsAsked asked → (for_any : Bool) (n : ℕ) (owner : Tree) (nodes : List Node) → slice_get (trees_of asked) n ≡ Some owner
    → owner.body ≡ body.Nodes nodes → (for_any ≡ true → slice_get asked.unmet.items n ≡ Some true)
    → (one other : Pair) → IsTrue (is_shape one.shape) → IsTrue (is_shape other.shape) → (for_any ≡ false → one.policy ≡ other.policy)
    → slice_get asked.table.kinds (number one.shape) ≡ slice_get asked.table.kinds (number other.shape)
    → bad_tree (lists_of asked) one 0 (cases_in nodes) ≡ bad_tree (lists_of asked) other 0 (cases_in nodes)
alike asked is true n owner nodes there has any one other one_listed other_listed policies kinds =
    judged_alike (lists_of asked) one other nodes (pre_for asked is n owner nodes there has)
    (unmet_alike (lists_of asked) asked.table is.alike one other one_listed other_listed kinds nodes (unmet_nodes asked is n owner nodes there has (any refl)))
alike asked is false n owner nodes there has any one other one_listed other_listed policies kinds =
    judged_alike (lists_of asked) one other nodes (pre_for asked is n owner nodes there has)
    (λ i d inside. told_alike (lists_of asked) asked.table is.alike one other one_listed other_listed kinds (policies refl) (get_or nodes i d))

-- what is kept for an earlier tree's pair is kept for this one's, where both trees ask the same
passed_on : (asked : PreparedClaim) → IsAsked asked → (for_any : Bool) (tree earlier : Tree) (n : ℕ) (owner : Tree) (nodes : List Node)
    → slice_get (trees_of asked) n ≡ Some owner → owner.body ≡ body.Nodes nodes → (for_any ≡ true → slice_get asked.unmet.items n ≡ Some true)
    → (for_any ≡ false → tree.policy ≡ earlier.policy) → slice_get asked.table.kinds tree.shape ≡ slice_get asked.table.kinds earlier.shape
    → KeptBy (lists_of asked) earlier nodes → (pair : Pair) → IsFor pair tree → bad_tree (lists_of asked) pair 0 (cases_in nodes) ≡ None
passed_on asked is for_any tree earlier n owner nodes there has any policies kinds own pair for =
    sym (alike asked is for_any n owner nodes there has any own.pair pair own.is.listed for.listed
    (λ one. own.is.policy ∙ sym (policies one) ∙ sym for.policy)
    (ap (slice_get asked.table.kinds) own.is.shape ∙ sym kinds ∙ sym (ap (slice_get asked.table.kinds) for.shape)))
    ∙ own.keeps

-- nodes of a tree before this one
pub owned_good : (asked : PreparedClaim) → IsAsked asked → (for_any : Bool) (count : ℕ) (tree : Tree) → IsReached asked count tree
    → (n : ℕ) (owner : Tree) (nodes : List Node) → n < count → slice_get (trees_of asked) n ≡ Some owner → owner.body ≡ body.Nodes nodes
    → (for_any ≡ true → slice_get asked.unmet.items n ≡ Some true)
    → (for_any ≡ false → tree.policy ≡ owner.policy) → slice_get asked.table.kinds tree.shape ≡ slice_get asked.table.kinds owner.shape
    → (pair : Pair) → IsFor pair tree → bad_tree (lists_of asked) pair 0 (cases_in nodes) ≡ None
owned_good asked is for_any count tree reached n owner nodes before there has any policies kinds =
    passed_on asked is for_any tree owner n owner nodes there has any policies kinds
    (kept_by (lists_of asked) (trees_of asked) (slice_get (due asked.second.now) n) owner nodes (pair_listed asked n) has (reached.before n owner before there))

-- nodes that a tree before this one shares
pub walked_good : (asked : PreparedClaim) → IsAsked asked → (for_any : Bool) (count : ℕ) (tree : Tree) → IsReached asked count tree
    → (k : ℕ) (earlier : Tree) (n : ℕ) → k < count → slice_get (trees_of asked) k ≡ Some earlier → earlier.body ≡ body.Same n
    → (for_any ≡ true → slice_get asked.unmet.items n ≡ Some true)
    → (for_any ≡ false → tree.policy ≡ earlier.policy) → slice_get asked.table.kinds tree.shape ≡ slice_get asked.table.kinds earlier.shape
    → KeepsFor asked tree n
walked_good asked is for_any count tree reached k earlier n before placed shares any policies kinds = λ owner nodes there has.
    passed_on asked is for_any tree earlier n owner nodes there has any policies kinds
    (kept_shared (lists_of asked) (trees_of asked) (slice_get (due asked.second.now) k) earlier n owner nodes (pair_listed asked k) shares there has (reached.before k earlier before placed))
