use Rattle.std.proofs.Common.{◌∙◌, sym}
use Rattle.csp_answer.proofs.SameAnswer.{same_found}
use Rattle.csp_answer.proofs.policy.is_same_answer.Goals as goal

pub returns : goal.returns
returns c is = same_found c.args.one.now c.args.other.now (sym c.eq.ensures ∙ is)
