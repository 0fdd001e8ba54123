use Rattle.std.proofs.Common.{◌≢◌, [], IsTrue, sym, subst}
use Rattle.std.specs.List.{list_all}
use Rattle.std.proofs.lemmas.Result.{IfOk-weaker}
use Rattle.csp_model.specs.Validity.{is_piece}
use Rattle.csp_model.specs.declared.check.CheckPart.TheVariants as part
use Rattle.csp_pick.specs.Parts.{MeetPart, path_holds}
use Rattle.csp_pick.proofs.PathsMet.{wanted_is_valid, wanted_meets, front_is_valid, behind_is_valid, behind_meets}
use Rattle.csp_pick.proofs.path.pick_path.Goals as goal

pub returns-in-Some-clause-some : goal.returns-in-Some-clause-some
returns-in-Some-clause-some c =
    let said = rw c.placing.ensures.placing at c.in-Some.ensures in
    let valid = wanted_is_valid c.args.cell.now.shape c.in-Some.path.now c.args.cell.now.literals c.placing.ensures.cell.each said in
    IfOk-weaker c.copy.result _ _ (λ path e. subst (λ p. p ≢ []) (sym e) valid.0) c.copy.ensures

pub returns-in-Some-clause-valid : goal.returns-in-Some-clause-valid
returns-in-Some-clause-valid c =
    let said = rw c.placing.ensures.placing at c.in-Some.ensures in
    let valid = wanted_is_valid c.args.cell.now.shape c.in-Some.path.now c.args.cell.now.literals c.placing.ensures.cell.each said in
    IfOk-weaker c.copy.result _ _ (λ path e. subst (λ p. IsTrue (list_all is_piece p)) (sym e) valid.1) c.copy.ensures

pub returns-in-Some-clause-meets : goal.returns-in-Some-clause-meets
returns-in-Some-clause-meets c =
    let ls = c.args.cell.now.literals in
    let said = rw c.placing.ensures.placing at c.in-Some.ensures in
    let met = wanted_meets c.in-Some.path.now ls c.placing.ensures.cell.pairs said in
    IfOk-weaker c.copy.result _ _ (λ path e. subst (λ p. MeetPart part.Path (path_holds p) ls) (sym e) met) c.copy.ensures

pub returns-in-None-clause-valid : goal.returns-in-None-clause-valid
returns-in-None-clause-valid c =
    let front = rw c.placing-in-None.ensures.placing at c.wanted_front.ensures in
    let valid = front_is_valid c.args.cell.now.shape c.args.cell.now.literals c.wanted_front.result c.placing.ensures.cell.each front in
    IfOk-weaker c.path_behind.result _ _
    (λ path (piece, is, e, free). subst (λ p. IsTrue (list_all is_piece p)) (sym e) (behind_is_valid _ piece valid is)) c.path_behind.ensures

pub returns-in-None-clause-meets : goal.returns-in-None-clause-meets
returns-in-None-clause-meets c =
    let ls = c.args.cell.now.literals in
    let front = rw c.placing-in-None.ensures.placing at c.wanted_front.ensures in
    let none = rw c.placing.ensures.placing at c.in-None.ensures in
    IfOk-weaker c.path_behind.result _ _
    (λ path (piece, is, e, free). subst (λ p. MeetPart part.Path (path_holds p) ls) (sym e)
    (behind_meets c.args.cell.now.shape ls piece c.placing.ensures.cell.each c.placing.ensures.cell.pairs (rw (← c.others.ensures.others) free)
    c.wanted_front.result none front)) c.path_behind.ensures
