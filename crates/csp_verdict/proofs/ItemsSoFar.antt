-- The items of a check, found from the first policy on: what is found of the policies from a place on, behind what is
-- there already, is what is found of all.
use Rattle.std.proofs.Common.{◌≡◌, ℕ, ◌+◌, ◌<◌, Bool, true, false, ◌||◌, List, [], ◌∷◌, ◌++◌, cond, drop, length, map, Option, get_or, refl, sym, ap, ◌∙◌, append_assoc, add-one, drop-cons, arith}
use Rattle.std.proofs.Math.ListN.{get_or-map}
use Rattle.std.proofs.lemmas.List.{length-map}
use Rattle.std.specs.List.{list_any, cons_option}
use Rattle.csp_model.specs.Verdict.{item_of, items_from, is_enforced, through_enforced, shown_items}
use Rattle.csp_verdict.specs.Stops.{stops}
use Rattle.csp_model.specs.declared.check.Check.{Check}
use Rattle.csp_model.specs.declared.check.Check.TheVariants as check
use Rattle.csp_model.specs.declared.policy.Policy.{Policy}
use Rattle.csp_model.specs.declared.verdict.Item.{Item}

-- what is shown of items, at a check that stops at the first enforced one or not
abbrev pub shown : Bool → List Item → List Item
shown halts items = cond halts (through_enforced items) items

pub shown_is : (asked : Check) (items : List Item) → shown (stops asked) items ≡ shown_items asked items
shown_is (check.Base there) items = refl
shown_is asked items = refl

pub shown_nothing : (halts : Bool) → shown halts [] ≡ []
shown_nothing true = refl
shown_nothing false = refl

pub or_true : (b : Bool) → (b || true) ≡ true
or_true true = refl
or_true false = refl

pub or_false : (b : Bool) → (b || false) ≡ b
or_false true = refl
or_false false = refl

-- the items of the policies from a place on
abbrev pub items_at : ℕ → List Policy → Check → List Item
items_at n ps asked = items_from n (drop n ps) asked

pub next : (n : ℕ) (ps : List Policy) (p : Policy) (asked : Check) → n < length ps → p ≡ get_or ps n p
    → items_at n ps asked ≡ cons_option (item_of n p asked) (items_at (n + 1) ps asked)
next n ps p asked within is =
    let rest : drop n ps ≡ p ∷ drop (n + 1) ps =
    drop-cons ps n p within ∙ ap (λ (m : ℕ). get_or ps n p ∷ drop m ps) (sym (add-one n))
    ∙ ap (λ (q : Policy). q ∷ drop (n + 1) ps) (sym is) in
    ap (λ (qs : List Policy). items_from n qs asked) rest

-- the same of what is seen as policies, where the item of the one at that place is known
pub next_seen : {A : Type 0} (seen : A → Policy) (n : ℕ) (xs : List A) (x : A) (asked : Check) (o : Option Item)
    → n < length xs → x ≡ get_or xs n x → item_of n (seen x) asked ≡ o
    → items_at n (map seen xs) asked ≡ cons_option o (items_at (n + 1) (map seen xs) asked)
next_seen seen n xs x asked o within is found =
    next n (map seen xs) (seen x) asked (omega (arith, length-map xs seen)) (ap seen is ∙ sym (get_or-map seen xs n x))
    ∙ ap (λ (i : Option Item). cons_option i (items_at (n + 1) (map seen xs) asked)) found

-- one more item of the list, where the items don't end with it
goes_on : (halts : Bool) (item : Item) (later : List Item) → (halts ≡ true → is_enforced item ≡ false)
    → shown halts (item ∷ later) ≡ item ∷ shown halts later
goes_on false item later free = refl
goes_on true item later free = ap (λ (b : Bool). cond b (item ∷ []) (item ∷ through_enforced later)) (free refl)

pub more_items : (halts : Bool) (items later all : List Item) (item : Item) → (halts ≡ true → is_enforced item ≡ false)
    → items ++ shown halts (item ∷ later) ≡ all → (items ++ item ∷ []) ++ shown halts later ≡ all
more_items halts items later all item free so_far =
    append_assoc items (item ∷ []) (shown halts later) ∙ sym (ap (λ (xs : List Item). items ++ xs) (goes_on halts item later free)) ∙ so_far

pub last_item : (items later all : List Item) (item : Item) → is_enforced item ≡ true
    → items ++ shown true (item ∷ later) ≡ all → items ++ item ∷ [] ≡ all
last_item items later all item enforced so_far =
    sym (ap (λ (b : Bool). items ++ cond b (item ∷ []) (item ∷ through_enforced later)) enforced) ∙ so_far

-- an enforced item blocks
pub blocks : (blocked : Bool) (item : Item) (later : List Item) (all : Bool) → is_enforced item ≡ true
    → (blocked || list_any is_enforced (item ∷ later)) ≡ all → true ≡ all
blocks blocked item later all enforced so_far =
    sym (ap (λ (b : Bool). blocked || (b || list_any is_enforced later)) enforced ∙ or_true blocked) ∙ so_far

pub more_blocked : (blocked now : Bool) (item : Item) (later : List Item) (all : Bool) → now ≡ (blocked || is_enforced item)
    → (blocked || list_any is_enforced (item ∷ later)) ≡ all → (now || list_any is_enforced later) ≡ all
more_blocked blocked now item later all is so_far =
    ap (λ (b : Bool). b || list_any is_enforced later) is ∙ regrouped blocked (is_enforced item) (list_any is_enforced later) ∙ so_far where
      regrouped : (a b c : Bool) → ((a || b) || c) ≡ (a || (b || c))
      regrouped true b c = refl
      regrouped false b c = refl
