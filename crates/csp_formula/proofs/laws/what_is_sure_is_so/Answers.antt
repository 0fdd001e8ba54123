use Rattle.csp_formula.proofs.SurelySound.{surely_sound}
use Rattle.csp_formula.proofs.laws.what_is_sure_is_so.Goals as goal

pub returns : goal.returns
returns c = surely_sound
