-- The JSON value of bytes (RFC 8259).
use Rattle.std.specs.Prelude.{ℕ, List, [], ◌∷◌, Option, Some, None, option_map, if◌then◌else◌}
use Rattle.std.specs.Str.{is_utf8}
use Rattle.serde_json.specs.Data.{Data, Items, no_items, item}
use Rattle.serde_json.specs.Find.{as_array}
use Rattle.serde_json.specs.Read.{read}

-- the JSON value of bytes
abbrev pub json_of : List ℕ → Option Data
json_of bytes = if is_utf8 bytes then read bytes else None

-- the items of an array
abbrev pub items_list : Items → List Data
items_list no_items = []
items_list (item value rest) = value ∷ items_list rest

abbrev pub array_of : Data → Option (List Data)
array_of value = option_map items_list (as_array value)
