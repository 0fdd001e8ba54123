use Rattle.csp_run.proofs.Usage.{usage_only_by_words}
use Rattle.csp_run.proofs.laws.usage_comes_only_by_the_words.Goals as goal

pub returns : goal.returns
returns c = usage_only_by_words
