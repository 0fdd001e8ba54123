use Rattle.std.proofs.Common.{Some}
use Rattle.csp_answer.proofs.Digests.{digest_named}
use Rattle.csp_answer.proofs.source.digest_atom.Goals as goal

pub returns-in-Some : goal.returns-in-Some
returns-in-Some c = digest_named c.args.source.now (Some c.in-Some.digest) c.in-Some.ensures
