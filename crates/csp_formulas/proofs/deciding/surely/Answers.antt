use Rattle.csp_formulas.specs.Formulas.{sentence_of}
use Rattle.csp_formula.proofs.SurelySound.{surely_sound}
use Rattle.csp_formulas.proofs.deciding.surely.Goals as goal

pub returns-clause-sound : goal.returns-clause-sound
returns-clause-sound c = λ hashes asked are.
    rw c.value_by.ensures (surely_sound hashes asked c.args.literals.now (sentence_of c.args.formula.now) are)
