-- Which checks a directive governs.
use Rattle.std.specs.Prelude.{Bool, false, Option, Some, None}
use Rattle.csp_model.specs.Governing.{Governor, governor, is_named}
use Rattle.csp_model.specs.declared.name.Name.{Name}
use Rattle.csp_model.specs.declared.policy.Directive.{Directive}
use Rattle.csp_model.specs.declared.policy.Policy.{Policy}

-- what governs has the directive's name
abbrev pub governs_by : Directive → Option Governor → Bool
governs_by d None = false
governs_by d (Some g) = is_named g.name d

-- the directive governs the checks with this effective directive
abbrev pub governs : Policy → Directive → Name → Bool
governs p d effective = governs_by d (governor p effective)
