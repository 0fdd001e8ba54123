-- An array whose items are read one at a time: what its tokens hold, before an item and after it.
use Rattle.std.proofs.Common.{◌≡◌, ◌∙◌, ℕ, zero, suc, ◌-◌, ◌<◌, ◌≤◌, Bool, true, false, true≢false, List, [], ◌∷◌, length, Option, Some, None, refl, ap, sym, arith}
use Rattle.std.specs.Prelude.{option_and_then, option_map}
use Rattle.json.specs.Json as json
use Rattle.json.specs.Json.{Json, parse_map, after_end_array, items, items_step, members, value}
use Rattle.json.specs.Token.{Token}
use Rattle.json.proofs.Grammar.{skip_value-shorter, left, value_is, value-begin_array, value-begin_object}
use Rattle.serde_json.specs.Data.{Num, Data, number, array, object, Items, Members, no_items, no_members, item}
use Rattle.serde_json.specs.Read.{number_of, of_json, of_items, of_members, converted}
use Rattle.csp_json.specs.Arrays.{begins_array, if_last, items_left}
use Rattle.csp_json.specs.Json.{array_of, items_list}
use Rattle.csp_json.proofs.Grammar.{item_read, item_refused, items_over, whole}

-- ---- the count of the tokens bounds the turns as well as any greater number

same_step : (d n m : ℕ) (ts : List Token) (closed : Option (List Token)) (r : Option (Json × List Token))
    → value d ts ≡ r → length ts ≤ suc n → length ts ≤ suc m
    → ((q : List Token) → length q ≤ n → length q ≤ m → items (value d) n q ≡ items (value d) m q)
    → items_step (value d) (items (value d) n) ts closed ≡ items_step (value d) (items (value d) m) ts closed
same_step d n m ts (Some rest) r is fits fits_too again = refl
same_step d n m ts None None is fits fits_too again = rw is refl
same_step d n m ts None (Some q) is fits fits_too again =
    let less : length q.1 < length ts = skip_value-shorter d ts q.1 (ap left is) in
    rw is (ap (parse_map (json.item q.0)) (again q.1 (omega arith) (omega arith)))

none_of_none : (d n : ℕ) → items (value d) n [] ≡ None
unfolding items
none_of_none d zero = refl
none_of_none d (suc n) = rw (value_is d []) refl

pub items_enough : (d n m : ℕ) (ts : List Token) → length ts ≤ n → length ts ≤ m
    → items (value d) n ts ≡ items (value d) m ts
unfolding items
items_enough d n m [] fits fits_too = none_of_none d n ∙ sym (none_of_none d m)
items_enough d zero m (t ∷ ts) fits fits_too = absurd (omega arith)
items_enough d (suc n) zero (t ∷ ts) fits fits_too = absurd (omega arith)
items_enough d (suc n) (suc m) (t ∷ ts) fits fits_too =
    same_step d n m (t ∷ ts) (after_end_array (t ∷ ts)) (value d (t ∷ ts)) refl fits fits_too
    (λ q a b. items_enough d n m q a b)

-- ---- a turn

-- an item before others
abbrev before : Data → Option (List Data) → Option (List Data)
before d rest = option_map (λ ds. d ∷ ds) rest

more_left : (d : Data) (r : Option (Items × List Token))
    → option_and_then if_last (parse_map (item d) r) ≡ before d (option_and_then if_last r)
more_left d None = refl
more_left d (Some (ds, [])) = refl
more_left d (Some (ds, t ∷ ts)) = refl

pub next_left : (ts r : List Token) (d : Data) → after_end_array ts ≡ None → length r < length ts
    → converted of_json (value 126 ts) ≡ Some (d, r)
    → items_left ts ≡ option_map (λ ds. d ∷ ds) (items_left r)
next_left ts r d going less is =
    ap (option_and_then if_last) (item_read (value 126) (length ts) ts r d (omega arith) going is)
    ∙ more_left d (converted of_items (items (value 126) (length ts - 1) r))
    ∙ ap (λ o. before d (option_and_then if_last (converted of_items o)))
    (items_enough 126 (length ts - 1) (length r) r (omega arith) (omega arith))

pub last_left : (ts : List Token) → after_end_array ts ≡ Some [] → items_left ts ≡ Some []
last_left ts closed =
    ap (option_and_then if_last) (items_over (value 126) (length ts) ts [] (omega arith) closed)

pub more_after : (ts : List Token) (t : Token) (r : List Token) → after_end_array ts ≡ Some (t ∷ r)
    → items_left ts ≡ None
more_after ts t r closed =
    ap (option_and_then if_last) (items_over (value 126) (length ts) ts (t ∷ r) (omega arith) closed)

pub bad_item : (ts : List Token) → after_end_array ts ≡ None → converted of_json (value 126 ts) ≡ None
    → items_left ts ≡ None
bad_item ts going none =
    ap (option_and_then if_last) (item_refused (value 126) (length ts) ts going none)

-- ---- ends

pub closed_left : items_left (Token.end_array ∷ []) ≡ Some []
unfolding items
closed_left = refl

pub failed_left : items_left [] ≡ None
unfolding items
failed_left = refl

-- ---- the beginning

abbrev array_in_whole : Option (Json × List Token) → Option (List Data)
array_in_whole o = option_and_then array_of (whole o)

of_array : (ds : Option Items) → option_and_then array_of (option_map array ds)
    ≡ option_and_then if_last (option_map (λ b. (b, [])) ds)
of_array None = refl
of_array (Some ds) = refl

not_last : (t : Token) (ts : List Token) (ds : Option Items)
    → None ≡ option_and_then if_last (option_map (λ b. (b, t ∷ ts)) ds)
not_last t ts None = refl
not_last t ts (Some ds) = refl

array_whole : (o : Option (json.Items × List Token))
    → array_in_whole (parse_map json.array o) ≡ option_and_then if_last (converted of_items o)
array_whole None = refl
array_whole (Some (js, [])) = of_array (of_items js)
array_whole (Some (js, t ∷ ts)) = not_last t ts (of_items js)

pub array_begun : (ts : List Token) → array_in_whole (value 127 (Token.begin_array ∷ ts)) ≡ items_left ts
array_begun ts = ap array_in_whole (value-begin_array 127 ts (omega arith))
    ∙ array_whole (items (value 126) (length ts) ts)

no_object : (ms : Option Members) → option_and_then array_of (option_map object ms) ≡ None
no_object None = refl
no_object (Some ms) = refl

object_whole : (o : Option (json.Members × List Token)) → array_in_whole (parse_map json.object o) ≡ None
object_whole None = refl
object_whole (Some (ms, [])) = no_object (of_members ms no_members)
object_whole (Some (ms, t ∷ ts)) = refl

no_text : (s : List ℕ) (ts : List Token) → array_in_whole (Some (json.string s, ts)) ≡ None
no_text s [] = refl
no_text s (t ∷ ts) = refl

no_flag : (b : Bool) (ts : List Token) → array_in_whole (Some (json.boolean b, ts)) ≡ None
no_flag b [] = refl
no_flag b (t ∷ ts) = refl

no_null : (ts : List Token) → array_in_whole (Some (json.null, ts)) ≡ None
no_null [] = refl
no_null (t ∷ ts) = refl

number_is_none : (found : Option Num) → option_and_then array_of (option_map number found) ≡ None
number_is_none None = refl
number_is_none (Some n) = refl

no_number : (s : List ℕ) (ts : List Token) → array_in_whole (Some (json.number s, ts)) ≡ None
no_number s [] = number_is_none (number_of s)
no_number s (t ∷ ts) = refl

-- what doesn't begin as an array is none
pub no_array : (ts : List Token) → begins_array ts ≡ false → array_in_whole (value 127 ts) ≡ None
no_array [] other = ap array_in_whole (value_is 127 [])
no_array (Token.begin_object ∷ ts) other =
    ap array_in_whole (value-begin_object 127 ts (omega arith))
    ∙ object_whole (members (value 126) (length ts) ts)
no_array (Token.end_object ∷ ts) other = ap array_in_whole (value_is 127 (Token.end_object ∷ ts))
no_array (Token.begin_array ∷ ts) other = absurd (true≢false other)
no_array (Token.end_array ∷ ts) other = ap array_in_whole (value_is 127 (Token.end_array ∷ ts))
no_array (Token.key s ∷ ts) other = ap array_in_whole (value_is 127 (Token.key s ∷ ts))
no_array (Token.string s ∷ ts) other =
    ap array_in_whole (value_is 127 (Token.string s ∷ ts)) ∙ no_text s ts
no_array (Token.number s ∷ ts) other =
    ap array_in_whole (value_is 127 (Token.number s ∷ ts)) ∙ no_number s ts
no_array (Token.boolean b ∷ ts) other =
    ap array_in_whole (value_is 127 (Token.boolean b ∷ ts)) ∙ no_flag b ts
no_array (Token.null ∷ ts) other = ap array_in_whole (value_is 127 (Token.null ∷ ts)) ∙ no_null ts
no_array (Token.bad ∷ ts) other = ap array_in_whole (value_is 127 (Token.bad ∷ ts))
