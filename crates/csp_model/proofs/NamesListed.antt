-- Each name stands among all names, at the place of its declaration.
use Rattle.std.proofs.Common.{◌≡◌, ℕ, ◌<◌, arith, length, map, get_or}
use denote.Enum.Declared.{tag_of}
use Rattle.std.specs.Prelude.{Contains}
use Rattle.csp_model.specs.Names.{names}
use Rattle.csp_model.specs.Types.{Name}
use Rattle.csp_model.specs.contracts.name.Name.{the_type}

abbrev pub place : Name → ℕ
place name = tag_of the_type name

pub within : (name : Name) → place name < length names
within name = grind arith

pub at_place : (name other : Name) → get_or names (place name) other ≡ name
at_place name other = grind arith

pub every_name : (name : Name) → Contains names name
every_name name = (place name, within name, at_place name name)

-- what is kept for each name stands at its place
pub kept_at_place : {A : Type 0} (kept : Name → A) (name : Name) (other : A) → get_or (map kept names) (place name) other ≡ kept name
kept_at_place kept name other = grind arith
