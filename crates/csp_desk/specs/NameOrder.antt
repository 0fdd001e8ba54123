-- The names of directives in byte order, as a tally prints them.
use Rattle.std.specs.Prelude.{ℕ, ◌+◌, List, [], ◌∷◌, Bool, true, ◌&&◌, slice_index, slice_set}
use denote.Enum.Declared.{tag_of}
use Rattle.std.specs.Str.{bytes_eq}
use Rattle.std.specs.Cmp.Lexicographic.{slice_cmp}
use Rattle.std.specs.Ordering.{is_lt, nat_cmp}
use Rattle.csp_model.specs.Names.{name_text}
pub use Rattle.csp_model.specs.Names.{names as names_in_order}
use Rattle.csp_model.specs.contracts.name.Name.{the_type}
use Rattle.csp_model.specs.declared.name.Name.{Name}

abbrev pub same_name : Name → Name → Bool
same_name name other = bytes_eq (name_text name) (name_text other)

-- the place of a name among them
abbrev pub place_of : Name → ℕ
place_of name = tag_of the_type name

-- counts of all names after one more of a name
abbrev pub counted : Name → List ℕ → List ℕ
counted name counts = slice_set counts (place_of name) (slice_index counts (place_of name) + 1)

-- each text stands before the next one in byte order
abbrev pub rises : List (List ℕ) → Bool
rises [] = true
rises (text ∷ []) = true
rises (text ∷ (next ∷ rest)) = is_lt (slice_cmp nat_cmp text next) && rises (next ∷ rest)
