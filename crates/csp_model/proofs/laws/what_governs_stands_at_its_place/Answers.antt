use Rattle.csp_model.proofs.GoverningLaws.{governs_at}
use Rattle.csp_model.proofs.laws.what_governs_stands_at_its_place.Goals as goal

pub returns : goal.returns
returns c = governs_at
