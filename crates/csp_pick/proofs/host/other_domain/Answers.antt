use Rattle.csp_facts.specs.declared.atom.Literal.{Literal}
use Rattle.csp_pick.specs.Said.{is_on_domains}
use Rattle.csp_pick.proofs.HostDomains.{alone_valid, example_valid}
use Rattle.csp_pick.proofs.HostMeets.{alone_denied}
use Rattle.csp_pick.proofs.PairsMet.{none_passes}
use Rattle.csp_pick.proofs.host.other_domain.Goals as goal

pub other_below-requires-clause-valid : goal.other_below-requires-clause-valid
other_below-requires-clause-valid c = example_valid

pub returns-clause-valid : goal.returns-clause-valid
returns-clause-valid c = alone_valid c.in_ok-text.text c.in_ok-text.ensures.numbered

pub returns-clause-denied : goal.returns-clause-denied
returns-clause-denied c =
    alone_denied c.args.literals.now c.in_ok-text.text c.in_ok-text.ensures.fresh c.in_ok-text.ensures.numbered
    (none_passes (λ (l : Literal). is_on_domains l.atom) c.args.literals.now c.requires)
