use Rattle.std.proofs.Common.{◌∙◌, sym}
use Rattle.std.proofs.lemmas.Bool.{cond-false}
use Rattle.csp_proof.specs.Reading.{atom_about}
use Rattle.csp_proof.proofs.Numbers.{other_text}
use Rattle.csp_proof.proofs.atom.atom_about.Goals as goal

pub returns-in_default : goal.returns-in_default
unfolding atom_about
returns-in_default c =
    sym (cond-false _ _ _ (other_text _ _ c.in_default.not-text) ∙ cond-false _ _ _ (other_text _ _ c.in_default.not-text-2)
    ∙ cond-false _ _ _ (other_text _ _ c.in_default.not-text-3) ∙ cond-false _ _ _ (other_text _ _ c.in_default.not-text-4)
    ∙ cond-false _ _ _ (other_text _ _ c.in_default.not-text-5) ∙ cond-false _ _ _ (other_text _ _ c.in_default.not-text-6)
    ∙ cond-false _ _ _ (other_text _ _ c.in_default.not-text-7) ∙ cond-false _ _ _ (other_text _ _ c.in_default.not-text-8)
    ∙ cond-false _ _ _ (other_text _ _ c.in_default.not-text-9))
