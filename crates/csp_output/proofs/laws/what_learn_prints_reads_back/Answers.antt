use Rattle.csp_output.proofs.LearntRead.{text_reads_back}
use Rattle.csp_output.proofs.laws.what_learn_prints_reads_back.Goals as goal

pub returns : goal.returns
returns c = text_reads_back c.a_learnt_policy_allows_what_is_needed.ensures c.a_learnt_policy_reads_back.ensures.back
