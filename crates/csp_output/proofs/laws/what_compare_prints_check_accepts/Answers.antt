use Rattle.csp_output.proofs.Shows.{accepts_what_is_printed, refuses_nothing_printed}
use Rattle.csp_output.proofs.laws.what_compare_prints_check_accepts.Goals as goal

pub returns-clause-accepted : goal.returns-clause-accepted
returns-clause-accepted c = accepts_what_is_printed c.a_text_is_of_one_proof.ensures

pub returns-clause-not_refused : goal.returns-clause-not_refused
returns-clause-not_refused c = refuses_nothing_printed
