-- Words of private contracts: what a compiled policy keeps for each name.
use Rattle.std.specs.Option.{option_map}
use Rattle.csp_model.specs.Governing.{Governor, governor, governor_named}
use Rattle.csp_model.specs.declared.name.Name.{Name}
use Rattle.csp_model.specs.declared.policy.Policy.{Policy}
use Rattle.csp_verdict.specs.declared.compiled_policy.Entry.{Entry}

-- what governs where a check asks for the name, by its own name, and the directive of the name
abbrev pub entry_of : Policy → Name → Entry
entry_of policy name = record {
  governing = option_map (λ (g : Governor). g.name) (governor policy name);
  own = governor_named policy.directives name;
}
