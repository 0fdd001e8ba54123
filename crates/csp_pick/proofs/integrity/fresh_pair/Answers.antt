use Rattle.csp_pick.proofs.FreshPair.{numbered_is_value, other_is_fresh}
use Rattle.csp_pick.proofs.integrity.fresh_pair.Goals as goal

pub returns-clause-valid : goal.returns-clause-valid
returns-clause-valid c = numbered_is_value c.in_ok-fresh_text.field-0 c.in_ok-fresh_text.ensures.numbered

pub returns-clause-fresh : goal.returns-clause-fresh
returns-clause-fresh c = other_is_fresh c.args.hashes.now _ c.in_ok-fresh_text.ensures.fresh
