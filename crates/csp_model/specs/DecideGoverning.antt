-- What a policy allows by what governs, as a test. It says what `Governing.WhereGoverned` says.
use Rattle.std.specs.Prelude.{Bool, true, Option, Some, None}
use Rattle.csp_model.specs.Governing.{Governor, governor}
use Rattle.csp_model.specs.Types.{Name, Policy}

abbrev pub allows_by : Option Governor → (Governor → Bool) → Bool
allows_by None test = true
allows_by (Some g) test = test g

abbrev pub where_governed : Policy → Name → (Governor → Bool) → Bool
where_governed policy effective test = allows_by (governor policy effective) test
