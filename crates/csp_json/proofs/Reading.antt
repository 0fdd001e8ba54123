-- Lists of items and of members that grow at their end, and the data that they stand for.
use Rattle.std.proofs.Common.{◌≡◌, ℕ, List, [], ◌∷◌, ◌++◌, true, false, true≢false, Option, Some, None, Vec, Global, map, refl, ap, sym, rules}
use Rattle.std.specs.Prelude.{is_some, option_map}
use Rattle.std.specs.Borrow.{Bor}
use Rattle.csp_json.specs.Json.{items_list, array_of}
use Rattle.serde_json.specs.View.{items_of}
use Rattle.json.specs.Json.{parse_map}
use Rattle.json.specs.Token.{Token}
use Rattle.serde_json.specs.Data.{Num, Data, number, array, object, Items, no_items, item, Members, no_members, put}
use Rattle.csp_json.specs.View.{view, items_view, members_view, number_data}
use Rattle.csp_json.specs.Types.{Value}
use Rattle.csp_json.specs.declared.value.Value.{Array, Object, the_lemmas}

pub view-Array : (v : Vec Value Global) → view (Array v) ≡ array (items_view v.items)
view-Array v = search (rules, the_lemmas)

pub view-Object : (v : Vec (Bor (List ℕ) × Value) Global) → view (Object v) ≡ object (members_view v.items no_members)
view-Object v = search (rules, the_lemmas)

abbrev pub items_before : List Value → Items → Items
items_before [] rest = rest
items_before (v ∷ vs) rest = item (view v) (items_before vs rest)

pub items_before-no_items : (vs : List Value) → items_before vs no_items ≡ items_view vs
items_before-no_items [] = refl
items_before-no_items (v ∷ vs) = ap (item (view v)) (items_before-no_items vs)

items_push : (vs : List Value) (v : Value) (rest : Items)
    → items_before vs (item (view v) rest) ≡ items_before (vs ++ v ∷ []) rest
items_push [] v rest = refl
items_push (w ∷ vs) v rest = ap (item (view w)) (items_push vs v rest)

pub one_more_item : (vs : List Value) (v : Value) (r : Option (Items × List Token))
    → parse_map (items_before vs) (parse_map (item (view v)) r) ≡ parse_map (items_before (vs ++ v ∷ [])) r
one_more_item vs v None = refl
one_more_item vs v (Some p) = ap (λ ds. Some (ds, p.1)) (items_push vs v p.0)

pub members_push : (ms : List (Bor (List ℕ) × Value)) (m : Bor (List ℕ) × Value) (found : Members)
    → members_view (ms ++ m ∷ []) found ≡ put m.0.now (view m.1) (members_view ms found)
members_push [] m found = refl
members_push (n ∷ ms) m found = members_push ms m (put n.0.now (view n.1) found)

-- a number in range is the data that is held of its text
pub held_number : (r : List Token) (found : Option Num) → is_some found ≡ true
    → option_map {U = Data × List Token} (λ d. (d, r)) (option_map number found) ≡ Some (number_data found, r)
held_number r None ranged = absurd (true≢false (sym ranged))
held_number r (Some n) ranged = refl

-- one that isn't is none
pub no_number : (r : List Token) (found : Option Num) → is_some found ≡ false
    → option_map {U = Data × List Token} (λ d. (d, r)) (option_map number found) ≡ None
no_number r None ranged = refl
no_number r (Some n) ranged = absurd (true≢false ranged)

items_list-items_of : (values : List Data) → items_list (items_of values) ≡ values
items_list-items_of [] = refl
items_list-items_of (value ∷ values) = ap (λ rest. value ∷ rest) (items_list-items_of values)

pub array_of-Array : (v : Vec Value Global) → array_of (view (Array v)) ≡ Some (map view v.items)
array_of-Array v = rw (view-Array v, items_list-items_of) refl
