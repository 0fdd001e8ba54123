use Rattle.csp_run.proofs.LearntRuns.{learnt_so}
use Rattle.csp_run.proofs.command_laws.learn_allows_exactly_what_its_log_needs.Goals as goal

pub returns : goal.returns
returns c =
    learnt_so c.what_learn_prints_reads_back.ensures c.described_urls_are_valid.ensures
    c.what_is_read_is_a_valid_origin.ensures
