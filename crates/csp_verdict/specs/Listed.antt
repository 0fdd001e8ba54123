-- A word of private contracts: the list of these policies.
use Rattle.std.specs.Prelude.{List}
use Rattle.csp_model.specs.declared.policy.Policy.{Policy}
use Rattle.csp_model.specs.declared.policy.PolicyList.{PolicyList}

abbrev pub list_of : List Policy → PolicyList
list_of policies = record { policies = policies }
