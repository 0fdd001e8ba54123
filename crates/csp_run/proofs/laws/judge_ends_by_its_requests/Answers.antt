use Rattle.csp_run.proofs.Ends.{clean_by_each, found_by_refusal}
use Rattle.csp_run.proofs.laws.judge_ends_by_its_requests.Goals as goal

pub returns-clause-clean : goal.returns-clause-clean
returns-clause-clean c = clean_by_each c.a_verdict_blocks_what_the_list_refuses.ensures

pub returns-clause-found : goal.returns-clause-found
returns-clause-found c = found_by_refusal c.a_verdict_blocks_what_the_list_refuses.ensures
