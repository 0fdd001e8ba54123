use Rattle.csp_why.proofs.NamedDigests.{same_reason}
use Rattle.csp_why.proofs.laws.only_named_algorithms_count.Goals as goal

pub returns : goal.returns
returns c = λ p kind nonce first second. same_reason kind nonce first second p
