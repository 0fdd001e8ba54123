-- The data that a `Value` stands for.
use Rattle.std.specs.Prelude.{ℕ, negsuc, List, [], ◌∷◌, map, Option, unwrap_or}
use Rattle.std.specs.Borrow.{Bor}
use Rattle.serde_json.specs.Data.{Num, negative, Data, null, boolean, number, string, array, object, Items, Members, no_members, put}
use Rattle.serde_json.specs.Read.{number_of}
use Rattle.serde_json.specs.View.{items_of}
use Rattle.csp_json.specs.declared.value.Value.{Value, fold-Value}
use Rattle.csp_json.specs.declared.value.Value.TheOpen.{Value-F}

-- the members of an object that has these already: they go in one after another, so the last of a name stays
abbrev pub members_of : List (Bor (List ℕ) × Data) → Members → Members
members_of [] found = found
members_of (m ∷ ms) found = members_of ms (put m.0.now m.1 found)

-- what a number's text writes; one that is out of range is never held, and would count as -1
abbrev pub number_data : Option Num → Data
number_data found = number (unwrap_or found (negative (negsuc 0)))

-- one level, with each value inside already seen as its data
abbrev pub view_step : Value-F Data → Data
view_step Value-F.Null = null
view_step (Value-F.Bool b) = boolean b
view_step (Value-F.Number s) = number_data (number_of s.now)
view_step (Value-F.String s) = string s.now
view_step (Value-F.Array v) = array (items_of v.items)
view_step (Value-F.Object v) = object (members_of v.items no_members)

abbrev pub view : Value → Data
view = fold-Value Data view_step

abbrev pub items_view : List Value → Items
items_view vs = items_of (map view vs)

abbrev pub members_view : List (Bor (List ℕ) × Value) → Members → Members
members_view ms found = members_of (map (λ m. (m.0, view m.1)) ms) found
