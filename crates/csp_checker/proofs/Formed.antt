-- What a well-formed proof has at the place of a tree.
use Rattle.std.proofs.Common.{arith, ◌≡◌, sym, ap, subst, ℕ, ◌+◌, ◌<◌, ◌≤◌, zero, suc, List, [], ◌∷◌, ◌++◌, length, take, append-nil, append_assoc, length-append, All}
use Rattle.std.specs.Prelude.{Some, IsTrue, slice_get}
use Rattle.std.specs.List.{flat_map}
use Rattle.std.proofs.lemmas.Option.{get_or_from_slice_get, slice_get_within, same_Some}
use Rattle.std.proofs.lemmas.List.Elements.{All-get_or}
use Rattle.csp_proof.specs.Spelling.{tree_lines}
use Rattle.csp_proof.specs.WellFormed.{has_nodes, body_at, line_behind, IsTree, AreTrees}
use Rattle.csp_proof.specs.declared.proof.Format.{Format}
use Rattle.csp_proof.specs.declared.proof.Tree.{Tree}

pub all_at : {A : Type 0} (P : A → Type 0) (xs : List A) (i : ℕ) (x : A) → All P xs → slice_get xs i ≡ Some x → P x
all_at P xs i x all is = subst P (get_or_from_slice_get xs i x x is) (All-get_or P xs i x (slice_get_within xs i x is) all)

behind : (format : Format) (before trees : List Tree) → AreTrees format before trees → (i : ℕ) (tree : Tree) → slice_get trees i ≡ Some tree → IsTree format (before ++ take i trees) tree
behind format before [] each i tree is = cc is
behind format before (t ∷ ts) each zero tree is =
    let same : t ≡ tree = same_Some t tree is in
    subst (λ (own : Tree). IsTree format (before ++ []) own) same (subst (λ (ts : List Tree). IsTree format ts t) (sym (append-nil before)) each.0)
behind format before (t ∷ ts) each (suc i) tree is =
    subst (λ (front : List Tree). IsTree format front tree) (append_assoc before (t ∷ []) (take i ts)) (behind format (before ++ t ∷ []) ts each.1 i tree is)

-- the tree may stand behind those before it
pub stands : (format : Format) (trees : List Tree) → AreTrees format [] trees → (i : ℕ) (tree : Tree) → slice_get trees i ≡ Some tree → IsTree format (take i trees) tree
stands format trees each i tree is = behind format [] trees each i tree is

-- its lines end before the last
pub lines_fit : (trees : List Tree) (i : ℕ) (tree : Tree) → slice_get trees i ≡ Some tree → line_behind (take i trees) + length (tree_lines tree) ≤ line_behind trees
lines_fit [] i tree is = cc is
lines_fit (t ∷ ts) zero tree is =
    let same = ap (λ (u : Tree). length (tree_lines u)) (same_Some t tree is) in
    omega (arith, same, length-append (tree_lines t) (flat_map tree_lines ts))
lines_fit (t ∷ ts) (suc i) tree is =
    omega (arith, lines_fit ts i tree is, length-append (tree_lines t) (flat_map tree_lines ts), length-append (tree_lines t) (flat_map tree_lines (take i ts)))

-- nodes that the trees before a place have stand before it
pub shared_before : (trees : List Tree) (i n : ℕ) → IsTrue (has_nodes (body_at (take i trees) n)) → n < i
shared_before [] zero n has = cc has
shared_before [] (suc i) n has = cc has
shared_before (t ∷ ts) zero n has = cc has
shared_before (t ∷ ts) (suc i) zero has = omega arith
shared_before (t ∷ ts) (suc i) (suc n) has = let before = shared_before ts i n has in omega arith
