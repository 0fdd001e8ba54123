use Rattle.csp_output.proofs.NamedDigests.{same_explained}
use Rattle.csp_output.proofs.why_laws.only_named_algorithms_count.Goals as goal

pub returns : goal.returns
returns c = same_explained
