use Rattle.csp_output.proofs.OneEmbedding.{added_where_allowed, clean_where_shown, one_status, one_word}
use Rattle.csp_output.proofs.laws.an_embedding_has_one_answer.Goals as goal

pub returns-clause-added : goal.returns-clause-added
returns-clause-added c = added_where_allowed

pub returns-clause-clean : goal.returns-clause-clean
returns-clause-clean c = clean_where_shown

pub returns-clause-word : goal.returns-clause-word
returns-clause-word c = one_word

pub returns-clause-status : goal.returns-clause-status
returns-clause-status c = one_status
