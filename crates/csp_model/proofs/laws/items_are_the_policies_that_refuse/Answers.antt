use Rattle.std.proofs.Common.{refl}
use Rattle.csp_model.proofs.RefusalLaws.{each_item_is_a_refusal, each_refusal_has_an_item}
use Rattle.csp_model.proofs.laws.items_are_the_policies_that_refuse.Goals as goal

pub returns-clause-each : goal.returns-clause-each
returns-clause-each c = each_item_is_a_refusal

pub returns-clause-shown : goal.returns-clause-shown
returns-clause-shown c = λ list asked. refl

pub returns-clause-all : goal.returns-clause-all
returns-clause-all c = each_refusal_has_an_item
