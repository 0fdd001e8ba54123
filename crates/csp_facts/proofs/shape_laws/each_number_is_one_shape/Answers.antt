use Rattle.csp_facts.proofs.Apart.{one_shape}
use Rattle.csp_facts.proofs.Listed.{shape_of_number}
use Rattle.csp_facts.proofs.shape_laws.each_number_is_one_shape.Goals as goal

pub returns-clause-some : goal.returns-clause-some
returns-clause-some c = shape_of_number

pub returns-clause-one : goal.returns-clause-one
returns-clause-one c = one_shape
