use Rattle.csp_model.proofs.NoncesDecided.{nonceable_decides, has_nonce}
use Rattle.csp_model.proofs.laws.an_element_has_its_nonce.Goals as goal

pub returns-clause-nonceable : goal.returns-clause-nonceable
returns-clause-nonceable c = nonceable_decides

pub returns-clause-nonce : goal.returns-clause-nonce
returns-clause-nonce c = has_nonce
