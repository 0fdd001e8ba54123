use Rattle.std.proofs.Common.{◌∙◌, sym}
use Rattle.csp_answer.proofs.SameQuestions.{same_decides}
use Rattle.csp_answer.proofs.policy.is_same_question.Goals as goal

pub returns : goal.returns
returns c is = (same_decides c.args.one c.args.other).0 (sym c.eq.ensures ∙ is)
