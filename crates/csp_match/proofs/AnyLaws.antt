-- Tests of which some item of a list is asked for.
use Rattle.std.proofs.Common.{◌≡◌, ℕ, ◌<◌, Bool, true, false, ◌&&◌, ◌||◌, List, [], ◌∷◌, length, get_or, map, refl, sym, ◌∙◌, ap, All, Contains, Any}
use Rattle.std.specs.List.{list_any}
use Rattle.std.proofs.lemmas.Bool.{false≢true}
use Rattle.std.proofs.lemmas.List.{get_or_default}
use Rattle.std.proofs.lemmas.List.Elements.{All-contains}
use Rattle.std.proofs.lemmas.List.Folds.{Any-from_list_any, list_any_at}
use Rattle.csp_model.proofs.Deciding.{same_bool}

pub both : (a b : Bool) → a ≡ true → b ≡ true → (a && b) ≡ true
both true b p q = q
both false b p q = p

pub first : (a b : Bool) → (a && b) ≡ true → a ≡ true
first true b h = refl
first false b h = h

pub second : (a b : Bool) → (a && b) ≡ true → b ≡ true
second true b h = h
second false b h = absurd (false≢true h)

pub or_false : (a : Bool) → (a || false) ≡ a
or_false true = refl
or_false false = refl

pub not_true : (b : Bool) → (b ≡ true → ⊥) → b ≡ false
not_true true none = absurd (none refl)
not_true false none = refl

or_swapped : (a b c d : Bool) → ((a || b) || (c || d)) ≡ ((a || c) || (b || d))
or_swapped true b c d = refl
or_swapped false true true d = refl
or_swapped false true false d = refl
or_swapped false false c d = refl

-- the answer of `a || b`, by either of them
pub or_here : (r a b : Bool) → r ≡ a → r ≡ true → r ≡ (a || b)
or_here r true b same holds = same
or_here r false b same holds = absurd (false≢true (sym same ∙ holds))

pub or_there : (r a b s : Bool) → r ≡ a → r ≡ false → s ≡ b → s ≡ (a || b)
or_there r true b s same fails there = absurd (false≢true (sym fails ∙ same))
or_there r false b s same fails there = there

-- an item that passes
pub found : {X : Type 0} (p : X → Bool) (xs : List X) (k : ℕ) (x : X) → k < length xs → get_or xs k x ≡ x → p x ≡ true → list_any p xs ≡ true
found p xs k x within is holds = list_any_at p xs k x within (rw is holds)

pub any_map : {X Y : Type 0} (f : X → Y) (p : Y → Bool) (xs : List X) → list_any p (map f xs) ≡ list_any (λ x. p (f x)) xs
any_map f p [] = refl
any_map f p (x ∷ xs) = ap (λ (b : Bool). p (f x) || b) (any_map f p xs)

pub any_or : {X : Type 0} (p q : X → Bool) (xs : List X) → list_any (λ x. p x || q x) xs ≡ (list_any p xs || list_any q xs)
any_or p q [] = refl
any_or p q (x ∷ xs) =
    ap (λ (b : Bool). (p x || q x) || b) (any_or p q xs) ∙ or_swapped (p x) (q x) (list_any p xs) (list_any q xs)

-- tests that agree on the items of a list
pub any_same : {X : Type 0} (p q : X → Bool) (xs : List X) → ((x : X) → Contains xs x → p x ≡ q x) → list_any p xs ≡ list_any q xs
any_same {X} p q xs same =
    same_bool _ _
    (λ h. let f = Any-from_list_any p xs h in
    found q xs f.0 f.1 f.2 f.3 (sym (same f.1 (f.0, f.2, f.3)) ∙ f.4))
    (λ h. let f = Any-from_list_any q xs h in
    found p xs f.0 f.1 f.2 f.3 (same f.1 (f.0, f.2, f.3) ∙ f.4))

-- tests that agree on all items
pub any_alike : {X : Type 0} (p q : X → Bool) (xs : List X) → ((x : X) → p x ≡ q x) → list_any p xs ≡ list_any q xs
any_alike p q xs same = any_same p q xs (λ x _. same x)

-- lists of the same items, up to a test that the other test heeds
pub any_once : {X : Type 0} (E : X → X → Bool) (xs ys : List X)
    → ((x : X) → Contains ys x → Contains xs x) → ((x : X) → Contains xs x → Any (λ y. E x y ≡ true) ys)
    → (p : X → Bool) → ((x y : X) → E x y ≡ true → p x ≡ p y) → list_any p ys ≡ list_any p xs
any_once E xs ys given kept p heeds =
    same_bool _ _
    (λ h. let f = Any-from_list_any p ys h in
    let g = given f.1 (f.0, f.2, f.3) in
    found p xs g.0 f.1 g.1 g.2 f.4)
    (λ h. let f = Any-from_list_any p xs h in
    let g = kept f.1 (f.0, f.2, f.3) in
    found p ys g.0 g.1 g.2 g.3 (sym (heeds f.1 g.1 g.4) ∙ f.4))

-- what holds of all items of a list holds of all items of a part of it
pub all_given : {X : Type 0} (P : X → Type 0) (xs ys : List X) → ((x : X) → Contains ys x → Contains xs x) → All P xs → All P ys
all_given P xs ys given all k d within =
    let x = get_or ys k d in
    All-contains P xs x all (given x (k, within, get_or_default ys k x d within))
