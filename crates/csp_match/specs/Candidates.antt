-- Words of private contracts: the directives that can govern a check.
use Rattle.std.specs.Prelude.{Bool, List, map, Option}
use Rattle.std.specs.List.{list_any}
use Rattle.csp_model.specs.Governing.{Governor, governor_named, fallbacks, is_named}
-- they have one of these names
pub use Rattle.csp_model.specs.Names.{names}
use Rattle.csp_model.specs.Reading.{first_of}
use Rattle.csp_model.specs.declared.name.Name.{Name}
use Rattle.csp_model.specs.declared.policy.Directive.{Directive}

-- a directive has one of the names
unfoldable pub can_govern : Directive → Bool
can_govern d = list_any (λ name. is_named name d) names

-- what governs, of these directives
abbrev pub governor_among : List Directive → Name → Option Governor
governor_among directives effective = first_of (map (governor_named directives) (fallbacks effective))
