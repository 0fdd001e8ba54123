use Rattle.csp_facts.proofs.Sound.{sound}
use Rattle.csp_facts.proofs.table.follows.Goals as goal

pub returns-clause-sound : goal.returns-clause-sound
returns-clause-sound c hashes asked so =
    rw c.follows_as.ensures (sound hashes asked c.args.literal.now c.args.atom.now so)
