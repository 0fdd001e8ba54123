use Rattle.csp_model.proofs.TokensDecided.{keyword_decides, nonce_decides, integrity_decides, digests_decide}
use Rattle.csp_model.proofs.laws.tests_of_tokens_decide_them.Goals as goal

pub returns-clause-keyword : goal.returns-clause-keyword
returns-clause-keyword c = keyword_decides

pub returns-clause-nonce : goal.returns-clause-nonce
returns-clause-nonce c = nonce_decides

pub returns-clause-integrity : goal.returns-clause-integrity
returns-clause-integrity c = integrity_decides

pub returns-clause-digests : goal.returns-clause-digests
returns-clause-digests c = digests_decide
