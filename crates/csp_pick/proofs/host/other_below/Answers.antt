use Rattle.std.proofs.Common.{◌∙◌, codes, subst}
use Rattle.csp_pick.specs.Fresh.{IsNumbered}
use Rattle.csp_pick.proofs.HostDomains.{below_suffix, below_valid}
use Rattle.csp_pick.proofs.HostMeets.{below_denied}
use Rattle.csp_pick.proofs.host.other_below.Goals as goal

pub returns-clause-valid : goal.returns-clause-valid
returns-clause-valid c =
    below_valid c.args.suffix.now c.in_ok-text.text c.requires.valid
    (subst (λ back. IsNumbered (codes "other") back c.in_ok-text.text) (c.as_str.ensures.value ∙ c.in_ok-back.ensures.ok) c.in_ok-text.ensures.numbered)

pub returns-clause-below : goal.returns-clause-below
returns-clause-below c =
    below_suffix c.args.suffix.now c.in_ok-text.text
    (subst (λ back. IsNumbered (codes "other") back c.in_ok-text.text) (c.as_str.ensures.value ∙ c.in_ok-back.ensures.ok) c.in_ok-text.ensures.numbered)

pub returns-clause-denied : goal.returns-clause-denied
returns-clause-denied c =
    below_denied c.args.literals.now c.in_ok-text.text c.in_ok-text.ensures.fresh c.args.suffix.now
    (subst (λ back. IsNumbered (codes "other") back c.in_ok-text.text) (c.as_str.ensures.value ∙ c.in_ok-back.ensures.ok) c.in_ok-text.ensures.numbered)
    c.requires.leaves
