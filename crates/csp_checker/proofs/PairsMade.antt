-- The pairs that a proof has to show, by their numbers.
use Rattle.std.proofs.Common.{arith, refl, ◌≡◌, ◌∙◌, sym, ap, ℕ, ◌+◌, zero, suc, true, List, [], ◌∷◌, ◌++◌, map, append-nil, append_assoc, All}
use Rattle.std.specs.Prelude.{IsTrue}
use Rattle.std.specs.List.{flat_map, list_all, range_with_len}
use Rattle.std.proofs.lemmas.Bool.{and_parts}
use Rattle.std.proofs.lemmas.List.{map-append}
use Rattle.std.proofs.lemmas.List.Elements.{All-nil, All-cons, All-append}
use Rattle.csp_model.specs.declared.policy.PolicyList.{PolicyList}
use Rattle.csp_facts.specs.Numbers.{number, shape_count}
use Rattle.csp_facts.specs.Shapes.{is_shape}
use Rattle.csp_facts.specs.declared.shape.Shape.{Shape}
use Rattle.csp_proof.specs.Pairs.{Pair, shapes, enforced}
use Rattle.csp_facts.proofs.Listed.{numbered as numbers_of_shapes}
use Rattle.csp_checker.specs.PreparedClaim.{due, numbered}
use Rattle.csp_checker.specs.declared.prepared_claim.NumberedPair.{NumberedPair}

abbrev pairs_with : List ℕ → Shape → List Pair
pairs_with policies kind = map (λ (n : ℕ). record { shape = kind; policy = n }) policies

abbrev pub row : List ℕ → ℕ → List NumberedPair
row policies shape = map (λ (policy : ℕ). record { shape = shape; policy = policy }) policies

row_numbered : (policies : List ℕ) (kind : Shape) → map numbered (pairs_with policies kind) ≡ row policies (number kind)
row_numbered [] kind = refl
row_numbered (n ∷ ns) kind = ap (λ (ps : List NumberedPair). record { shape = number kind; policy = n } ∷ ps) (row_numbered ns kind)

rows_numbered : (policies : List ℕ) (kinds : List Shape) → map numbered (flat_map (pairs_with policies) kinds) ≡ flat_map (row policies) (map number kinds)
rows_numbered policies [] = refl
rows_numbered policies (kind ∷ kinds) =
    map-append numbered (pairs_with policies kind) (flat_map (pairs_with policies) kinds)
    ∙ ap (λ ps. ps ++ map numbered (flat_map (pairs_with policies) kinds)) (row_numbered policies kind)
    ∙ ap (λ ps. row policies (number kind) ++ ps) (rows_numbered policies kinds)

pub all_rows : (second : PolicyList) → map numbered (due second) ≡ flat_map (row (enforced second)) (range_with_len 0 shape_count)
unfolding due
all_rows second = rows_numbered (enforced second) shapes ∙ ap (flat_map (row (enforced second))) numbers_of_shapes

-- one row more
row_behind : (policies : List ℕ) (start count : ℕ) → flat_map (row policies) (range_with_len start (suc count)) ≡ flat_map (row policies) (range_with_len start count) ++ row policies (start + count)
row_behind policies start zero =
    let e : start ≡ start + zero = omega arith in
    append-nil (row policies start) ∙ ap (row policies) e
row_behind policies start (suc count) =
    let e : start + 1 + count ≡ start + suc count = omega arith in
    ap (λ ps. row policies start ++ ps) (row_behind policies (start + 1) count ∙ ap (λ n. flat_map (row policies) (range_with_len (start + 1) count) ++ row policies n) e)
    ∙ sym (append_assoc (row policies start) (flat_map (row policies) (range_with_len (start + 1) count)) (row policies (start + suc count)))

pub row_more : (policies : List ℕ) (count : ℕ) → flat_map (row policies) (range_with_len 0 (count + 1)) ≡ flat_map (row policies) (range_with_len 0 count) ++ row policies count
row_more policies count =
    let next : count + 1 ≡ suc count = omega arith in
    let same : 0 + count ≡ count = omega arith in
    ap (λ n. flat_map (row policies) (range_with_len 0 n)) next ∙ row_behind policies 0 count ∙ ap (λ n. flat_map (row policies) (range_with_len 0 count) ++ row policies n) same

-- each pair's shape is one

abbrev Listed : Pair → Type 0
Listed pair = IsTrue (is_shape pair.shape)

row_listed : (policies : List ℕ) (kind : Shape) → IsTrue (is_shape kind) → All Listed (pairs_with policies kind)
row_listed [] kind listed = All-nil Listed
row_listed (n ∷ ns) kind listed = All-cons Listed (record { shape = kind; policy = n }) (pairs_with ns kind) listed (row_listed ns kind listed)

rows_listed : (policies : List ℕ) (kinds : List Shape) → list_all is_shape kinds ≡ true → All Listed (flat_map (pairs_with policies) kinds)
rows_listed policies [] listed = All-nil Listed
rows_listed policies (kind ∷ kinds) listed =
    let both = and_parts (is_shape kind) (list_all is_shape kinds) listed in
    All-append Listed (pairs_with policies kind) (flat_map (pairs_with policies) kinds) (row_listed policies kind both.0) (rows_listed policies kinds both.1)

pub all_listed : (second : PolicyList) → All (λ (pair : Pair). IsTrue (is_shape pair.shape)) (due second)
unfolding due
all_listed second = rows_listed (enforced second) shapes refl
