use Rattle.csp_run.proofs.ShownRuns.{shown_so}
use Rattle.csp_run.proofs.command_laws.embed_upholds.Goals as goal

pub returns : goal.returns
returns c = shown_so c.an_embedding_upholds_the_requirement.ensures
