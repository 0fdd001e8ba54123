use Rattle.csp_rules.proofs.Redirected.{path_is_dropped}
use Rattle.csp_rules.proofs.fetch_laws.a_redirect_drops_the_path.Goals as goal

pub returns-clause-url : goal.returns-clause-url
returns-clause-url c = path_is_dropped
