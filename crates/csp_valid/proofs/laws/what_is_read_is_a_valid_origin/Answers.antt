use Rattle.csp_url.proofs.Valid.{origin_valid}
use Rattle.csp_valid.proofs.laws.what_is_read_is_a_valid_origin.Goals as goal

pub returns : goal.returns
returns c = origin_valid
