-- Trees that show pairs, behind trees that show others: together they show all of them, in this list and in each
-- longer one.
use Rattle.std.proofs.Common.{arith, ◌≡◌, ◌∙◌, sym, ap, subst, refl, ℕ, ◌+◌, ◌<◌, ◌≤◌, ◌^◌, zero, suc, get_or, take, Bool, true, List, [], ◌∷◌, ◌++◌, length, map, append-nil, append_assoc, length-append, eq-eqb}
use Rattle.std.specs.Prelude.{Option, Some, None, IsTrue}
use Rattle.std.specs.List.{AllZip}
use Rattle.std.proofs.lemmas.Bool.{and_from}
use Rattle.std.proofs.lemmas.List.{length_push, length-map, length-take-le, map_push, take_all, take_more}
use Rattle.std.proofs.lemmas.List.Elements.{AllZip-push, AllZip-get_or, length_all_zip}
use Rattle.csp_model.specs.Policies.{policy_limit}
use Rattle.csp_facts.specs.Numbers.{number}
use Rattle.csp_facts.specs.declared.shape.Shape.{Shape}
use Rattle.csp_proof.specs.Accepts.{cases_in, Lists, bad_tree, at_line, bad_shared, bad_body, is_for, for_pair, first_of, bad_from}
use Rattle.csp_proof.specs.Pairs.{Pair}
use Rattle.csp_proof.specs.WellFormed.{has_nodes, body_at, IsBody}
use Rattle.csp_proof.specs.declared.proof.Body.{Body}
use Rattle.csp_proof.specs.declared.proof.Body.TheVariants as body
use Rattle.csp_proof.specs.declared.proof.Format.TheVariants.{Two}
use Rattle.csp_proof.specs.declared.proof.Node.{Node}
use Rattle.csp_proof.specs.declared.proof.Tree.{Tree}
use Rattle.csp_proof.proofs.CasesRead.{cases_back}
use Rattle.csp_facts.proofs.Listed.{within_count}
use Rattle.csp_proof.proofs.Steps.{trees_push}
use Rattle.csp_search.specs.Answers.{ShowsInclusion}
use Rattle.csp_compare.specs.Drafts.{tree_behind, IsBodyOf, IsAdded, Shows, at_shape, IsShown, Adds}

-- Failures

none_first : (x y : Option ℕ) → x ≡ None → y ≡ None → first_of x y ≡ None
none_first x y one other = ap (λ (o : Option ℕ). first_of o y) one ∙ other

neither : (x y : Option ℕ) → first_of x y ≡ None → (x ≡ None) × (y ≡ None)
neither None y none = (refl, none)
neither (Some line) y none = cc none

from_push : (lists : Lists) (all : List Tree) (last : ℕ) (ps : List Pair) (trees : List Tree) (pair : Pair) (tree : Tree)
    → bad_from lists all last ps trees ≡ None → for_pair (is_for pair tree) tree (bad_body lists all pair (tree.line + 1) tree.body) ≡ None
    → bad_from lists all last (ps ++ pair ∷ []) (trees ++ tree ∷ []) ≡ None
from_push lists all last [] [] pair tree none here = none_first _ None here refl
from_push lists all last [] (t ∷ trees) pair tree none here = cc none
from_push lists all last (p ∷ ps) [] pair tree none here = cc none
from_push lists all last (p ∷ ps) (t ∷ trees) pair tree none here =
    let both = neither _ _ none in
    none_first _ _ both.0 (from_push lists all last ps trees pair tree both.1 here)

-- Bodies

pub body_longer : (trees more : List Tree) (n : ℕ) (b : Body) → body_at trees n ≡ Some b → body_at (trees ++ more) n ≡ Some b
body_longer [] more n b is = cc is
body_longer (t ∷ trees) more zero b is = is
body_longer (t ∷ trees) more (suc n) b is = body_longer trees more n b is

pub body_last : (trees : List Tree) (tree : Tree) → body_at (trees ++ tree ∷ []) (length trees) ≡ Some tree.body
body_last [] tree = refl
body_last (t ∷ trees) tree = body_last trees tree

pub body_within : (trees : List Tree) (n : ℕ) (b : Body) → body_at trees n ≡ Some b → n < length trees
body_within [] n b is = cc is
body_within (t ∷ trees) zero b is = omega arith
body_within (t ∷ trees) (suc n) b is = let rest = body_within trees n b is in omega arith

-- Nodes that show a pair

pub tree_good : (lists : Lists) (pair : Pair) (nodes : List Node) (line : ℕ) → ShowsInclusion lists pair nodes → bad_tree lists pair line (cases_in nodes) ≡ None
tree_good lists pair nodes line is =
    ap (λ (ns : List Node). bad_tree lists pair line (cases_in ns)) (sym is.preorder) ∙ ap (bad_tree lists pair line) (cases_back is.cases) ∙ is.accepted line

pub shown_by : (lists : Lists) (trees : List Tree) (pair : Pair) (n : ℕ) (nodes : List Node) → body_at trees n ≡ Some (body.Nodes nodes) → ShowsInclusion lists pair nodes → IsShown lists trees pair n
shown_by lists trees pair n nodes here is line = ap (bad_shared lists pair line) here ∙ ap (at_line line) (tree_good lists pair nodes line is)

shown_nodes : (lists : Lists) (pair : Pair) (b : Option Body) → bad_shared lists pair 0 b ≡ None → IsTrue (has_nodes b)
shown_nodes lists pair None none = cc none
shown_nodes lists pair (Some (body.Same tree)) none = cc none
shown_nodes lists pair (Some (body.Nodes nodes)) none = refl

some_within : (lists : Lists) (pair : Pair) (trees : List Tree) (n : ℕ) (b : Option Body) → body_at trees n ≡ b → bad_shared lists pair 0 b ≡ None → n < length trees
some_within lists pair trees n None is none = cc none
some_within lists pair trees n (Some b) is none = body_within trees n b is

pub shown_within : (lists : Lists) (trees : List Tree) (pair : Pair) (n : ℕ) → IsShown lists trees pair n → n < length trees
shown_within lists trees pair n is = some_within lists pair trees n (body_at trees n) refl (is 0)

same_body : (lists : Lists) (pair : Pair) (trees more : List Tree) (n : ℕ) (b : Option Body) → body_at trees n ≡ b → bad_shared lists pair 0 b ≡ None → body_at (trees ++ more) n ≡ b
same_body lists pair trees more n None is none = cc none
same_body lists pair trees more n (Some b) is none = body_longer trees more n b is

pub shown_longer : (lists : Lists) (trees more : List Tree) (pair : Pair) (n : ℕ) → IsShown lists trees pair n → IsShown lists (trees ++ more) pair n
shown_longer lists trees more pair n is line =
    ap (bad_shared lists pair line) (same_body lists pair trees more n (body_at trees n) refl (is 0)) ∙ is line

-- Trees behind trees

pub adds_none : (lists : Lists) (trees : List Tree) → Adds lists [] trees trees
adds_none lists trees = record {
  longer = ([], sym (append-nil trees));
  count = omega arith;
  shows = λ before is. subst (λ (ps : List Pair). Shows lists ps trees) (sym (append-nil before)) is;
}

pub adds_more : (lists : Lists) (ps qs : List Pair) (a b c : List Tree) → Adds lists ps a b → Adds lists qs b c → Adds lists (ps ++ qs) a c
adds_more lists ps qs a b c one two = record {
  longer = (one.longer.0 ++ two.longer.0, two.longer.1 ∙ ap (λ (ts : List Tree). ts ++ two.longer.0) one.longer.1 ∙ append_assoc a one.longer.0 two.longer.0);
  count = omega (arith, one.count, two.count, length-append ps qs);
  shows = λ before is. subst (λ (rs : List Pair). Shows lists rs c) (append_assoc before ps qs) (two.shows (before ++ ps) (one.shows before is));
}

for_itself : (kind : Shape) (policy : ℕ) (trees : List Tree) (b : Body) → is_for (at_shape kind policy) (tree_behind trees (number kind) policy b) ≡ true
for_itself kind policy trees b = and_from _ _ (eq-eqb (number kind) (number kind) refl) (eq-eqb policy policy refl)

adds_tree : (lists : Lists) (kind : Shape) (policy : ℕ) (trees : List Tree) (b : Body) → policy < policy_limit → IsBody Two trees b
    → ((more : List Tree) (line : ℕ) → bad_body lists (trees ++ more) (at_shape kind policy) line b ≡ None)
    → Adds lists (at_shape kind policy ∷ []) trees (trees ++ tree_behind trees (number kind) policy b ∷ [])
adds_tree lists kind policy trees b small is good =
    let tree = tree_behind trees (number kind) policy b in
    let pair = at_shape kind policy in record {
      longer = (tree ∷ [], refl);
      count = omega (arith, length_push trees tree);
      shows = λ before shown. record {
        formed = trees_push Two [] trees tree shown.formed (record { shape = within_count kind; policy = small; line = refl; body = is });
        accepted = λ more last.
            subst (λ (all : List Tree). bad_from lists all last (before ++ pair ∷ []) (trees ++ tree ∷ []) ≡ None) (sym (append_assoc trees (tree ∷ []) more))
            (from_push lists (trees ++ tree ∷ more) last before trees pair tree (shown.accepted (tree ∷ more) last)
            (ap (λ (t : Bool). for_pair t tree (bad_body lists (trees ++ tree ∷ more) pair (tree.line + 1) b)) (for_itself kind policy trees b) ∙ good (tree ∷ more) (tree.line + 1)));
      };
    }

adds_nodes : (lists : Lists) (kind : Shape) (policy : ℕ) (trees : List Tree) (nodes : List Node) → policy < policy_limit → ShowsInclusion lists (at_shape kind policy) nodes
    → Adds lists (at_shape kind policy ∷ []) trees (trees ++ tree_behind trees (number kind) policy (body.Nodes nodes) ∷ [])
adds_nodes lists kind policy trees nodes small is =
    adds_tree lists kind policy trees (body.Nodes nodes) small ((is.cases, is.preorder), is.valid) (λ more line. tree_good lists (at_shape kind policy) nodes line is)

pub adds_same : (lists : Lists) (kind : Shape) (policy : ℕ) (trees : List Tree) (n : ℕ) → policy < policy_limit → n < 2 ^ 32 → IsShown lists trees (at_shape kind policy) n
    → Adds lists (at_shape kind policy ∷ []) trees (trees ++ tree_behind trees (number kind) policy (body.Same n) ∷ [])
adds_same lists kind policy trees n small fits is =
    adds_tree lists kind policy trees (body.Same n) small (refl, fits, shown_nodes lists (at_shape kind policy) (body_at trees n) (is 0)) (λ more line. shown_longer lists trees more (at_shape kind policy) n is line)

pub adds_added : (lists : Lists) (kind : Shape) (policy : ℕ) (nodes : List Node) (n : ℕ) (old new : List Tree) → policy < policy_limit → length old < 2 ^ 32 → ShowsInclusion lists (at_shape kind policy) nodes
    → IsAdded old new (number kind) policy nodes n → Adds lists (at_shape kind policy ∷ []) old new × IsShown lists new (at_shape kind policy) n
adds_added lists kind policy nodes n old new small room shows is =
    subst (λ (ts : List Tree). Adds lists (at_shape kind policy ∷ []) old ts × IsShown lists ts (at_shape kind policy) n) (sym is.grown) (by is.body is.is) where
      by : (b : Body) → IsBodyOf old nodes n b → Adds lists (at_shape kind policy ∷ []) old (old ++ tree_behind old (number kind) policy b ∷ [])
          × IsShown lists (old ++ tree_behind old (number kind) policy b ∷ []) (at_shape kind policy) n
      by (body.Nodes own) h =
          let pair = at_shape kind policy in
          let tree = tree_behind old (number kind) policy (body.Nodes own) in
          let own_shows = subst (ShowsInclusion lists pair) (sym h.0) shows in
          (adds_nodes lists kind policy old own small own_shows, shown_by lists (old ++ tree ∷ []) pair n own (ap (body_at (old ++ tree ∷ [])) h.1 ∙ body_last old tree) own_shows)
      by (body.Same tree) h =
          let pair = at_shape kind policy in
          let shown = shown_by lists old pair n nodes h.1 shows in
          let all = subst (λ (m : ℕ). (m < 2 ^ 32) × IsShown lists old pair m) (sym h.0) (let within = body_within old n (body.Nodes nodes) h.1 in let fits : n < 2 ^ 32 = omega arith in (fits, shown)) in
          (adds_same lists kind policy old tree small all.0 all.1, shown_longer lists old (tree_behind old (number kind) policy (body.Same tree) ∷ []) pair n shown)

-- The policies of one shape

zip_weaker : (R S : ℕ → ℕ → Type 0) (xs ys : List ℕ) → ((x y : ℕ) → R x y → S x y) → AllZip R xs ys → AllZip S xs ys
zip_weaker R S [] [] weaker each = tt
zip_weaker R S [] (y ∷ ys) weaker each = each
zip_weaker R S (x ∷ xs) [] weaker each = each
zip_weaker R S (x ∷ xs) (y ∷ ys) weaker each = (weaker x y each.0, zip_weaker R S xs ys weaker each.1)

pub zip_longer : (lists : Lists) (kind : Shape) (ps : List Pair) (old new : List Tree) (policies numbers : List ℕ) → Adds lists ps old new
    → AllZip (λ policy n. IsShown lists old (at_shape kind policy) n) policies numbers → AllZip (λ policy n. IsShown lists new (at_shape kind policy) n) policies numbers
zip_longer lists kind ps old new policies numbers adds each =
    zip_weaker (λ policy n. IsShown lists old (at_shape kind policy) n) (λ policy n. IsShown lists new (at_shape kind policy) n) policies numbers
    (λ policy n is. subst (λ (ts : List Tree). IsShown lists ts (at_shape kind policy) n) (sym adds.longer.1) (shown_longer lists old adds.longer.0 (at_shape kind policy) n is)) each

-- the trees for these policies are added, and those of these numbers have nodes that show them
pub record IsSoFar (lists : Lists) (kind : Shape) (start trees : List Tree) (policies numbers : List ℕ) : Type 0 where
  pub adds : Adds lists (map (at_shape kind) policies) start trees
  pub shown : AllZip (λ policy n. IsShown lists trees (at_shape kind policy) n) policies numbers

pub so_far_none : (lists : Lists) (kind : Shape) (start : List Tree) → IsSoFar lists kind start start [] []
so_far_none lists kind start = record { adds = adds_none lists start; shown = tt }

pub so_far_added : (lists : Lists) (kind : Shape) (start old new : List Tree) (policies numbers : List ℕ) (policy n : ℕ) (nodes : List Node)
    → IsSoFar lists kind start old policies numbers → policy < policy_limit → length old < 2 ^ 32 → ShowsInclusion lists (at_shape kind policy) nodes → IsAdded old new (number kind) policy nodes n
    → IsSoFar lists kind start new (policies ++ policy ∷ []) (numbers ++ n ∷ [])
so_far_added lists kind start old new policies numbers policy n nodes so small room shows is =
    let added = adds_added lists kind policy nodes n old new small room shows is in record {
      adds = subst (λ (ps : List Pair). Adds lists ps start new) (sym (map_push (at_shape kind) policies policy)) (adds_more lists (map (at_shape kind) policies) (at_shape kind policy ∷ []) start old new so.adds added.0);
      shown = AllZip-push (λ policy n. IsShown lists new (at_shape kind policy) n) policies numbers policy n (zip_longer lists kind (at_shape kind policy ∷ []) old new policies numbers added.0 so.shown) added.1;
    }

-- one more tree that shares nodes
pub adds_shared : (lists : Lists) (kind : Shape) (start old : List Tree) (policies : List ℕ) (policy n : ℕ) → Adds lists (map (at_shape kind) policies) start old → policy < policy_limit → n < 2 ^ 32
    → IsShown lists start (at_shape kind policy) n → Adds lists (map (at_shape kind) (policies ++ policy ∷ [])) start (old ++ tree_behind old (number kind) policy (body.Same n) ∷ [])
adds_shared lists kind start old policies policy n adds small fits is =
    let pair = at_shape kind policy in
    let tree = tree_behind old (number kind) policy (body.Same n) in
    let here = subst (λ (ts : List Tree). IsShown lists ts pair n) (sym adds.longer.1) (shown_longer lists start adds.longer.0 pair n is) in
    subst (λ (ps : List Pair). Adds lists ps start (old ++ tree ∷ [])) (sym (map_push (at_shape kind) policies policy))
    (adds_more lists (map (at_shape kind) policies) (pair ∷ []) start old (old ++ tree ∷ []) adds (adds_same lists kind policy old n small fits here))

pub so_far_room : (lists : Lists) (kind : Shape) (start trees : List Tree) (all numbers : List ℕ) (i : ℕ) → IsSoFar lists kind start trees (take i all) numbers → i < length all → length start + length all < 2 ^ 32
    → length trees < 2 ^ 32
so_far_room lists kind start trees all numbers i so within room =
    let count = so.adds.count in
    let same = length-map (take i all) (at_shape kind) in
    let front : length (take i all) ≡ i = length-take-le i all (omega arith) in
    omega arith

pub so_far_more : (lists : Lists) (kind : Shape) (start trees : List Tree) (all numbers : List ℕ) (i : ℕ) → i < length all → IsSoFar lists kind start trees (take i all ++ get_or all i 0 ∷ []) numbers
    → IsSoFar lists kind start trees (take (i + 1) all) numbers
so_far_more lists kind start trees all numbers i within so = subst (λ (ps : List ℕ). IsSoFar lists kind start trees ps numbers) (sym (take_more all i 0 within)) so

pub so_far_all : (lists : Lists) (kind : Shape) (start trees : List Tree) (all numbers : List ℕ) (i : ℕ) → length all ≤ i → IsSoFar lists kind start trees (take i all) numbers → IsSoFar lists kind start trees all numbers
so_far_all lists kind start trees all numbers i past so = subst (λ (ps : List ℕ). IsSoFar lists kind start trees ps numbers) (take_all i all past) so

pub share_more : (lists : Lists) (kind : Shape) (start old new : List Tree) (all numbers : List ℕ) (i place : ℕ) → Adds lists (map (at_shape kind) (take i all)) start old → i < length numbers → get_or all i 0 < policy_limit
    → length start < 2 ^ 32 → AllZip (λ policy n. IsShown lists start (at_shape kind policy) n) all numbers → place ≡ number kind
    → new ≡ old ++ tree_behind old place (get_or all i 0) (body.Same (get_or numbers i 0)) ∷ [] → Adds lists (map (at_shape kind) (take (i + 1) all)) start new
share_more lists kind start old new all numbers i place adds within small room shown here grown =
    let R = λ (policy n : ℕ). IsShown lists start (at_shape kind policy) n in
    let counts = length_all_zip R all numbers shown in
    let inside : i < length all = omega arith in
    let is = AllZip-get_or R all numbers i 0 0 shown inside in
    let below = shown_within lists start (at_shape kind (get_or all i 0)) (get_or numbers i 0) is in
    let fits : get_or numbers i 0 < 2 ^ 32 = omega arith in
    subst (λ (ps : List ℕ). Adds lists (map (at_shape kind) ps) start new) (sym (take_more all i 0 inside))
    (subst (λ (ts : List Tree). Adds lists (map (at_shape kind) (take i all ++ get_or all i 0 ∷ [])) start ts) (sym (grown ∙ ap (λ (m : ℕ). old ++ tree_behind old m (get_or all i 0) (body.Same (get_or numbers i 0)) ∷ []) here))
    (adds_shared lists kind start old (take i all) (get_or all i 0) (get_or numbers i 0) adds small fits is))

pub share_all : (lists : Lists) (kind : Shape) (start trees : List Tree) (all numbers : List ℕ) (i : ℕ) → Adds lists (map (at_shape kind) (take i all)) start trees → length numbers ≤ i
    → AllZip (λ policy n. IsShown lists start (at_shape kind policy) n) all numbers → Adds lists (map (at_shape kind) all) start trees
share_all lists kind start trees all numbers i adds past shown =
    let counts = length_all_zip (λ (policy n : ℕ). IsShown lists start (at_shape kind policy) n) all numbers shown in
    subst (λ (ps : List ℕ). Adds lists (map (at_shape kind) ps) start trees) (take_all i all (omega arith)) adds
