use Rattle.csp_run.proofs.Untouched.{kept_by_words, kept_by_status}
use Rattle.csp_run.proofs.laws.reporters_keep_what_they_hold.Goals as goal

pub returns-clause-words : goal.returns-clause-words
returns-clause-words c = kept_by_words

pub returns-clause-status : goal.returns-clause-status
returns-clause-status c = kept_by_status
