use Rattle.csp_url.proofs.PathText.{reads_back}
use Rattle.csp_url.proofs.laws.path_reads_back.Goals as goal

pub returns : goal.returns
returns c = reads_back c.args.url.now c.requires
