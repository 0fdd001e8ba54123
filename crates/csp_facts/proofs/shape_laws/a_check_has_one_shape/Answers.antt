use Rattle.std.proofs.Common.{◌∙◌, sym}
use Rattle.csp_facts.proofs.Checks.{shape_of, shaped, is_listed, is_only}
use Rattle.csp_facts.proofs.shape_laws.a_check_has_one_shape.Goals as goal

pub returns-clause-some : goal.returns-clause-some
returns-clause-some c asked = (shape_of asked, shaped asked, is_listed asked)

pub returns-clause-one : goal.returns-clause-one
returns-clause-one c asked first second one other = is_only asked first one ∙ sym (is_only asked second other)
