use Rattle.std.proofs.Common.{option_copied}
use Rattle.csp_url.proofs.Valid.{hosted_made}
use Rattle.csp_url.proofs.parts.url_from_parts.Goals as goal

pub returns-in-Some-clause-valid : goal.returns-in-Some-clause-valid
returns-in-Some-clause-valid c =
    hosted_made c.in-Some.known (option_copied c.args.host) c.args.port c.args.path.now c.hosted_url.result c.hosted_url.ensures
