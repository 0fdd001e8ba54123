-- Arrays that are read item by item.
use Rattle.std.specs.Prelude.{ℕ, Bool, false, true, List, [], ◌∷◌, length, Option, Some, None, option_and_then, option_map, nat_le, ◌≡◌}
use Rattle.json.specs.Json.{items, value}
use Rattle.json.specs.Token.{Token}
use Rattle.serde_json.specs.Data.{Data, Items}
use Rattle.serde_json.specs.Read.{converted, of_items}
use Rattle.csp_json.specs.Json.{array_of, items_list, json_of}
use Rattle.csp_json.specs.declared.array.State.{State}
use Rattle.csp_json.specs.declared.array.State.TheVariants.{Open, Closed, Failed}

-- the items of the array that bytes are
abbrev pub array_in : List ℕ → Option (List Data)
array_in bytes = option_and_then array_of (json_of bytes)

-- the first token opens an array
abbrev pub begins_array : List Token → Bool
begins_array [] = false
begins_array (Token.begin_object ∷ ts) = false
begins_array (Token.end_object ∷ ts) = false
begins_array (Token.begin_array ∷ ts) = true
begins_array (Token.end_array ∷ ts) = false
begins_array (Token.key s ∷ ts) = false
begins_array (Token.string s ∷ ts) = false
begins_array (Token.number s ∷ ts) = false
begins_array (Token.boolean b ∷ ts) = false
begins_array (Token.null ∷ ts) = false
begins_array (Token.bad ∷ ts) = false

abbrev pub if_last : Items × List Token → Option (List Data)
if_last (found, []) = Some (items_list found)
if_last (found, t ∷ ts) = None

-- the items that come with these tokens, where they are the rest of an array, and nothing stands after it
abbrev pub items_left : List Token → Option (List Data)
items_left ts = option_and_then if_last (converted of_items (items (value 126) (length ts) ts))

-- of some items the first was passed
abbrev pub IsPassed : Option (List Data) → Option (List Data) → Type 0
IsPassed before after = (first : Data) × (before ≡ option_map (λ rest. first ∷ rest) after)

-- whether there are at most so many items
abbrev pub fits_in : ℕ → Option (List Data) → Option Bool
fits_in limit found = option_map (λ values. nat_le (length values) limit) found

-- the tokens that are to come: after an array its bracket alone, after a fault none
abbrev pub coming : State → List Token → List Token
coming Open ts = ts
coming Closed ts = Token.end_array ∷ []
coming Failed ts = []
