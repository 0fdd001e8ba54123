use Rattle.std.proofs.Common.{◌∙◌, sym, subst}
use Rattle.std.proofs.lemmas.Result.{IfOk-weaker}
use Rattle.csp_model.specs.declared.check.CheckPart.TheVariants as part
use Rattle.csp_pick.specs.Parts.{MeetPart, nonce_holds}
use Rattle.csp_pick.proofs.NoncesMet.{wanted_meets, none_meets}
use Rattle.csp_pick.proofs.nonce.pick_nonce.Goals as goal

pub returns-in-Some-clause-meets : goal.returns-in-Some-clause-meets
returns-in-Some-clause-meets c =
    let ls = c.args.cell.now.literals in
    let said = rw c.placing.ensures.placing at c.in-Some.ensures in
    let met = wanted_meets c.in-Some.value.now ls c.placing.ensures.cell.pairs said in
    IfOk-weaker c.new.result _ _ (λ v e. subst (λ w. MeetPart part.Nonce (nonce_holds w) ls) (sym (e ∙ c.as_str.ensures.text)) met) c.new.ensures

pub returns-in-None-clause-meets : goal.returns-in-None-clause-meets
returns-in-None-clause-meets c =
    let ls = c.args.cell.now.literals in
    let none = rw c.placing.ensures.placing at c.in-None.ensures in
    let met = none_meets c.args.cell.now.shape ls c.placing.ensures.cell.each none in
    IfOk-weaker c.new-in-None.result _ _ (λ v e. subst (λ w. MeetPart part.Nonce (nonce_holds w) ls) (sym e) met) c.new-in-None.ensures
