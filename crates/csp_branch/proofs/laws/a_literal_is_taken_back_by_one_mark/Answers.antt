use Rattle.csp_branch.proofs.Telling.{marks_push, back_by_mark}
use Rattle.csp_branch.specs.Marks.{no_marks}
use Rattle.csp_branch.proofs.laws.a_literal_is_taken_back_by_one_mark.Goals as goal

pub returns-clause-path : goal.returns-clause-path
returns-clause-path c atoms steps step = marks_push atoms (no_marks atoms) steps step

pub returns-clause-mark : goal.returns-clause-mark
returns-clause-mark c atoms steps step = back_by_mark atoms steps step
