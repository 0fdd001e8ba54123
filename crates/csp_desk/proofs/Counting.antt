-- The counts of all names grow with each violation.
use Rattle.std.proofs.Common.{◌≡◌, ℕ, ◌+◌, ◌<◌, Bool, true, false, if◌then◌else◌, List, [], ◌∷◌, ◌++◌, map, take, length, get_or, refl, ◌∙◌, ap, arith}
use Rattle.std.specs.Prelude.{cond}
use Rattle.std.specs.List.{count_by, flat_map}
use Rattle.std.proofs.lemmas.List.{length-take-le}
use Rattle.std.proofs.lemmas.List.Sums.{count_by-le-length, sum_by-append}
use Rattle.csp_model.specs.declared.name.Name.{Name}
use Rattle.csp_model.specs.declared.verdict.Violation.{Violation}
use Rattle.csp_desk.specs.NameOrder.{names_in_order, place_of, counted}
use Rattle.csp_desk.specs.Texts.{is_of, counts_of, count_line, line_at, tally_line, tally_text}
use Rattle.csp_model.proofs.NamesListed.{kept_at_place}
use Rattle.csp_desk.proofs.Names.{set-place_of}

map_same : {A B : Type 0} (f g : A → B) → ((x : A) → f x ≡ g x) → (xs : List A) → map f xs ≡ map g xs
map_same f g same [] = refl
map_same f g same (x ∷ xs) = rw (same x, map_same f g same xs) refl

-- one item more, of which the test says b
count_by-then : {X : Type 0} (p : X → Bool) (xs : List X) (x : X) (b : Bool) → p x ≡ b
    → (if b then count_by p xs + 1 else count_by p xs) ≡ count_by p (xs ++ x ∷ [])
count_by-then p xs x true is = rw (sum_by-append (λ y. cond (p y) 1 0) xs (x ∷ []), is) (omega arith)
count_by-then p xs x false is = rw (sum_by-append (λ y. cond (p y) 1 0) xs (x ∷ []), is) (omega arith)

pub counts_then : (held : List Violation) (v : Violation) (counts : List ℕ) → counts ≡ counts_of held
    → counted v.effective counts ≡ counts_of (held ++ v ∷ [])
counts_then held v counts so_far =
    rw (so_far, kept_at_place (λ name. count_by (is_of name) held) v.effective 0)
    (set-place_of (λ name. count_by (is_of name) held) v.effective
    ∙ map_same _ _ (λ name. count_by-then (is_of name) held v (is_of name v) refl) names_in_order)

flat_map_same : {A B : Type 0} (f g : A → List B) → ((x : A) → f x ≡ g x) → (xs : List A)
    → flat_map f xs ≡ flat_map g xs
flat_map_same f g same [] = refl
flat_map_same f g same (x ∷ xs) = rw (same x, flat_map_same f g same xs) refl

-- the count at the place of a name
pub count_is : (held : List Violation) (counts : List ℕ) (name : Name) → counts ≡ counts_of held
    → get_or counts (place_of name) 0 ≡ count_by (is_of name) held
count_is held counts name all = rw all (kept_at_place (λ n. count_by (is_of n) held) name 0)

-- the lines by the counts are the lines of the violations
line_at-counts : (held : List Violation) (counts : List ℕ) → counts ≡ counts_of held → (name : Name)
    → line_at counts name ≡ tally_line held name
line_at-counts held counts all name =
    ap (count_line name) (count_is held counts name all)

-- the count of a name among the first violations is less than how many there are in all
pub count_below : (held : List Violation) (counts : List ℕ) (name : Name) (place : ℕ)
    → counts ≡ counts_of (take place held) → place < length held → get_or counts (place_of name) 0 < length held
count_below held counts name place all within =
    let found = count_is (take place held) counts name all in
    let few = count_by-le-length (is_of name) (take place held) in
    let first = length-take-le place held (omega (arith, within)) in
    omega (arith, found, few, first)

pub tally_text-by_counts : (held : List Violation) (counts : List ℕ) → counts ≡ counts_of held
    → flat_map (line_at counts) names_in_order ≡ tally_text held
unfolding tally_text
tally_text-by_counts held counts all =
    flat_map_same (line_at counts) (tally_line held) (line_at-counts held counts all) names_in_order
