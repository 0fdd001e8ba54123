-- JSON values, as far as descriptions look at them (RFC 8259).
use Rattle.std.specs.Prelude.{ℕ, nat_le, List, Option, Some, None, is_some, option_and_then, if◌then◌else◌}
use Rattle.serde_json.specs.Data.{Data}
use Rattle.serde_json.specs.Find.{get, as_null, as_number, as_u64}

-- a member that is null counts as absent
abbrev pub unless_null : Data → Option Data
unless_null value = if is_some (as_null value) then None else Some value

-- the member of a name
abbrev pub present : List ℕ → Data → Option Data
present name value = option_and_then unless_null (get name value)

-- a whole number up to the greatest one that is allowed
abbrev pub at_most : ℕ → ℕ → Option ℕ
at_most greatest n = if nat_le n greatest then Some n else None

abbrev pub whole_number : ℕ → Data → Option ℕ
whole_number greatest value = option_and_then (at_most greatest) (option_and_then as_u64 (as_number value))
