use Rattle.csp_formulas.proofs.LeftOver.{every_is_open, one_is_open}
use Rattle.csp_formulas.proofs.residuals.join.Goals as goal

pub returns-then-every-clause-some : goal.returns-then-every-clause-some
returns-then-every-clause-some c = every_is_open c.args.parts

pub returns-else-every-clause-some : goal.returns-else-every-clause-some
returns-else-every-clause-some c = one_is_open c.args.parts
