use Rattle.csp_branch.proofs.Literals.{deny, placed, placed_state, denied_state}
use Rattle.csp_branch.proofs.laws.an_open_atom_is_placed_or_denied.Goals as goal

pub returns-clause-placed : goal.returns-clause-placed
returns-clause-placed c around place denied known asked forest state e = placed around forest place denied known asked state e

pub returns-clause-denied : goal.returns-clause-denied
returns-clause-denied c around place denied known asked = deny around place denied known asked

pub returns-clause-placed_state : goal.returns-clause-placed_state
returns-clause-placed_state c around place denied known forest state e = placed_state around forest place denied known state e

pub returns-clause-denied_state : goal.returns-clause-denied_state
returns-clause-denied_state c around place denied known forest state e = denied_state around forest place denied known state e
