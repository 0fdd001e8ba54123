use Rattle.std.proofs.Common.{refl}
use Rattle.std.proofs.lemmas.Result.{IfOk-weaker}
use Rattle.csp_formula.specs.Sentences.{Known}
use Rattle.csp_answer.proofs.Answered.{made_plain}
use Rattle.csp_answer.proofs.asking.known_answer.Goals as goal

pub returns : goal.returns
returns c =
    IfOk-weaker c.new.result _ _ (λ made plain atoms. plain atoms (Known c.args.known) (Known c.args.known) (c.in_ok-constant.ensures atoms) refl)
    (made_plain c.new.result c.in_ok-constant.field-0.items c.new.ensures.said c.new.ensures.among c.new.ensures.answer)
