use Rattle.csp_run.proofs.ExplainedRuns.{clean_so, explained_text, found_so}
use Rattle.csp_run.proofs.command_laws.why_ends_as_judge.Goals as goal

pub returns-clause-text : goal.returns-clause-text
returns-clause-text c = explained_text

pub returns-clause-clean : goal.returns-clause-clean
returns-clause-clean c =
    clean_so c.why_ends_as_judge_does.ensures c.a_verdict_blocks_what_the_list_refuses.ensures

pub returns-clause-found : goal.returns-clause-found
returns-clause-found c =
    found_so c.why_ends_as_judge_does.ensures c.a_verdict_blocks_what_the_list_refuses.ensures
