use Rattle.std.proofs.Common.{IsTrue, sym, subst}
use Rattle.std.specs.Prelude.{IsNone}
use Rattle.std.proofs.lemmas.Result.{IfOk-weaker}
use Rattle.csp_model.specs.Schemes.{scheme_named}
use Rattle.csp_model.specs.Validity.{is_lower_scheme}
use Rattle.csp_model.specs.declared.check.CheckPart.TheVariants as part
use Rattle.csp_pick.specs.Parts.{MeetPart, scheme_holds}
use Rattle.csp_pick.proofs.SchemesMet.{wanted_is_valid, wanted_meets, allowed_meets, unnamed}
use Rattle.csp_pick.proofs.scheme.pick_scheme.Goals as goal

pub returns-in-Some-clause-valid : goal.returns-in-Some-clause-valid
returns-in-Some-clause-valid c =
    let said = rw c.placing.ensures.placing at c.in-Some.ensures in
    let valid = wanted_is_valid c.in-Some.scheme.now c.args.cell.now c.placing.ensures.cell said in
    IfOk-weaker c.copy.result _ _ (λ s e. subst (λ t. IsTrue (is_lower_scheme t) × IsNone (scheme_named t)) (sym e) valid) c.copy.ensures

pub returns-in-Some-clause-meets : goal.returns-in-Some-clause-meets
returns-in-Some-clause-meets c =
    let ls = c.args.cell.now.literals in
    let said = rw c.placing.ensures.placing at c.in-Some.ensures in
    let met = wanted_meets c.in-Some.scheme.now c.args.cell.now c.placing.ensures.cell said in
    IfOk-weaker c.copy.result _ _ (λ s e. subst (λ t. MeetPart part.PlainScheme (scheme_holds t) ls) (sym e) met) c.copy.ensures

pub returns-in-None-clause-meets : goal.returns-in-None-clause-meets
returns-in-None-clause-meets c =
    let none = rw c.placing.ensures.placing at c.in-None.ensures in
    IfOk-weaker c.free_scheme.result _ _
    (λ s free. allowed_meets s c.args.cell.now.literals none (unnamed s _ (rw (← c.others.ensures.others) free))) c.free_scheme.ensures.free
