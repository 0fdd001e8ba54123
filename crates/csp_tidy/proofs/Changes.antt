-- Lists with one item changed or taken out.
use Rattle.std.proofs.Common.{arith, ◌≡◌, ◌≢◌, ◌∙◌, sym, ap, refl, subst, ℕ, zero, suc, ◌+◌, ◌<◌, ◌≤◌, List, [], ◌∷◌, ◌++◌, length, map, get_or, take, All}
use Rattle.std.specs.List.{remove}
use Rattle.std.proofs.lemmas.List.{take_more, take_all}
use Rattle.std.proofs.lemmas.List.Elements.{All-nil, All-cons, All-head, All-tail}
use Rattle.csp_tidy.specs.Candidates.{change_at}

pub length_change : {A : Type 0} (f : A → A) (n : ℕ) (xs : List A) → length (change_at f n xs) ≡ length xs
length_change f n [] = refl
length_change f zero (x ∷ xs) = refl
length_change f (suc n) (x ∷ xs) = ap suc (length_change f n xs)

pub get_changed : {A : Type 0} (f : A → A) (n : ℕ) (xs : List A) (d : A) → n < length xs → get_or (change_at f n xs) n d ≡ f (get_or xs n d)
get_changed f n [] d within = absurd (omega arith)
get_changed f zero (x ∷ xs) d within = refl
get_changed f (suc n) (x ∷ xs) d within = get_changed f n xs d (omega arith)

pub get_kept : {A : Type 0} (f : A → A) (n i : ℕ) (xs : List A) (d : A) → i ≢ n → get_or (change_at f n xs) i d ≡ get_or xs i d
get_kept f n i [] d other = refl
get_kept f zero zero (x ∷ xs) d other = absurd (other refl)
get_kept f zero (suc i) (x ∷ xs) d other = refl
get_kept f (suc n) zero (x ∷ xs) d other = refl
get_kept f (suc n) (suc i) (x ∷ xs) d other = get_kept f n i xs d (λ same. other (ap suc same))

-- the front of a list with one item changed grows by the next item

pub front_changed : {A : Type 0} (f : A → A) (n i : ℕ) (xs : List A) (d : A) → i < length xs → i ≡ n
    → take (i + 1) (change_at f n xs) ≡ take i (change_at f n xs) ++ f (get_or xs i d) ∷ []
front_changed f n i xs d within same =
    let long = length_change f n xs in
    let here = subst (λ (k : ℕ). get_or (change_at f n xs) k d ≡ f (get_or xs k d)) (sym same) (get_changed f n xs d (omega (arith, same, within))) in
    take_more (change_at f n xs) i d (omega (arith, long, within)) ∙ ap (λ x. take i (change_at f n xs) ++ x ∷ []) here

pub front_kept : {A : Type 0} (f : A → A) (n i : ℕ) (xs : List A) (d : A) → i < length xs → i ≢ n
    → take (i + 1) (change_at f n xs) ≡ take i (change_at f n xs) ++ get_or xs i d ∷ []
front_kept f n i xs d within other =
    let long = length_change f n xs in
    take_more (change_at f n xs) i d (omega (arith, long, within)) ∙ ap (λ x. take i (change_at f n xs) ++ x ∷ []) (get_kept f n i xs d other)

pub all_changed : {A : Type 0} (P : A → Type 0) (f : A → A) (n : ℕ) (xs : List A) → ((x : A) → P x → P (f x)) → All P xs → All P (change_at f n xs)
all_changed P f n [] keeps all = All-nil P
all_changed P f zero (x ∷ xs) keeps all = All-cons P (f x) xs (keeps x (All-head P x xs all)) (All-tail P x xs all)
all_changed P f (suc n) (x ∷ xs) keeps all = All-cons P x (change_at f n xs) (All-head P x xs all) (all_changed P f n xs keeps (All-tail P x xs all))

pub map_removed : {A B : Type 0} (f : A → B) (n : ℕ) (xs : List A) → map f (remove xs n) ≡ remove (map f xs) n
map_removed f zero [] = refl
map_removed f (suc n) [] = refl
map_removed f zero (x ∷ xs) = refl
map_removed f (suc n) (x ∷ xs) = ap (λ ys. f x ∷ ys) (map_removed f n xs)

pub all_taken : {A : Type 0} (f : A → A) (n k : ℕ) (xs : List A) → length xs ≤ k → take k (change_at f n xs) ≡ change_at f n xs
all_taken f n k xs long = let same = length_change f n xs in take_all k (change_at f n xs) (omega (arith, same, long))
