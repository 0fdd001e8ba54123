use Rattle.csp_page.proofs.Due.{given_over_same}
use Rattle.csp_page.proofs.answer_words.Goals as goal

pub returns-clause-given : goal.returns-clause-given
returns-clause-given c =
    given_over_same _ _ _ _ _ _ _ c.in_ok-words.ensures.made c.in_ok-inputs.ensures.contents
    c.in_ok-run_words.ensures
