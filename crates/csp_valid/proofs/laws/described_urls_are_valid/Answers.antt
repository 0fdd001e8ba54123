use Rattle.csp_valid.proofs.Requests.{requests_valid}
use Rattle.csp_valid.proofs.laws.described_urls_are_valid.Goals as goal

pub returns : goal.returns
returns c = requests_valid
