-- Words of private contracts, which stand here since contracts cite only specs/.
use Rattle.std.specs.Prelude.{◌≡◌, true, ⊤}
use Rattle.csp_model.specs.Ascii.{is_ascii_text, words}
use Rattle.csp_policy.specs.Room.{directive_with}
use Rattle.csp_policy.specs.Types.{Standing, Fate}
use Rattle.csp_policy.specs.declared.fate.Fate.TheVariants.{Empty, Dropped, Kept}

abbrev pub standing_said : Standing → Fate
standing_said Standing.Empty = Empty
standing_said (Standing.Dropped reason) = Dropped reason
standing_said (Standing.Kept name text) = Kept (directive_with name.now (words text.now))

-- what is read of it is ASCII
abbrev pub IsAsciiStanding : Standing → Type 0
IsAsciiStanding Standing.Empty = ⊤
IsAsciiStanding (Standing.Dropped reason) = ⊤
IsAsciiStanding (Standing.Kept name text) = (is_ascii_text name.now ≡ true) × (is_ascii_text text.now ≡ true)
