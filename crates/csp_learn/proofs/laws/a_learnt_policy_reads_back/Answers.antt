use Rattle.csp_learn.proofs.Printable.{learnt_back, learnt_printable}
use Rattle.csp_learn.proofs.laws.a_learnt_policy_reads_back.Goals as goal

pub returns-clause-printable : goal.returns-clause-printable
returns-clause-printable c = learnt_printable

pub returns-clause-back : goal.returns-clause-back
returns-clause-back c = learnt_back c.header_lines_read_back.ensures
