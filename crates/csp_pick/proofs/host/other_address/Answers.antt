use Rattle.csp_pick.proofs.HostAddresses.{numbered_address}
use Rattle.csp_pick.proofs.host.other_address.Goals as goal

pub returns-clause-valid : goal.returns-clause-valid
returns-clause-valid c = numbered_address c.in_ok-text.text c.in_ok-text.ensures.numbered
