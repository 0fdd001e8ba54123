use Rattle.std.proofs.Common.{◌≡◌, ◌∙◌, true, sym, subst}
use Rattle.std.proofs.lemmas.Result.{IfOk-weaker}
use Rattle.csp_model.specs.DecideEnds.{is_host_under}
use Rattle.csp_model.specs.Validity.{IsValidHost}
use Rattle.csp_model.specs.declared.check.CheckPart.TheVariants as part
use Rattle.csp_pick.specs.Parts.{IsDenied, MeetPart, host_holds}
use Rattle.csp_pick.proofs.HostMeets.{wanted_is_valid, wanted_meets, suffix_is_valid, suffix_open, suffix_meets, address_meets, domain_meets}
use Rattle.csp_pick.proofs.Placed.{both_ok}
use Rattle.csp_pick.proofs.host.pick_host.Goals as goal

pub returns-in-Some-clause-valid : goal.returns-in-Some-clause-valid
returns-in-Some-clause-valid c =
    let said = rw c.placing.ensures.placing at c.in-Some.ensures in
    let valid = wanted_is_valid c.args.cell.now c.placing.ensures.cell c.in-Some.host.now said in
    IfOk-weaker c.copy.result _ _ (λ host e. subst IsValidHost (sym e) valid) c.copy.ensures

pub returns-in-Some-clause-meets : goal.returns-in-Some-clause-meets
returns-in-Some-clause-meets c =
    let said = rw c.placing.ensures.placing at c.in-Some.ensures in
    let met = wanted_meets c.args.cell.now c.placing.ensures.cell c.in-Some.host.now said in
    IfOk-weaker c.copy.result _ _ (λ host e. subst (λ h. MeetPart part.Host (host_holds h) c.args.cell.now.literals) (sym e) met) c.copy.ensures

pub other_below-requires-clause-valid : goal.other_below-requires-clause-valid
other_below-requires-clause-valid c =
    rw c.as_str.ensures.text
    (suffix_is_valid c.args.cell.now c.placing.ensures.cell c.in-Some-wanted_suffix.suffix.now (rw c.placing-2.ensures.placing at c.in-Some-wanted_suffix.ensures))

pub other_below-requires-clause-leaves : goal.other_below-requires-clause-leaves
other_below-requires-clause-leaves c =
    rw (c.as_str.ensures.text, c.others-denials.ensures.others)
    (suffix_open c.args.cell.now c.placing.ensures.cell c.in-Some-wanted_suffix.suffix.now (rw c.placing-2.ensures.placing at c.in-Some-wanted_suffix.ensures))

pub returns-in-Some-wanted_suffix-clause-meets : goal.returns-in-Some-wanted_suffix-clause-meets
returns-in-Some-wanted_suffix-clause-meets c =
    let said = rw c.placing-2.ensures.placing at c.in-Some-wanted_suffix.ensures in
    both_ok _ _ _ c.other_below.result
    (λ host below denied. suffix_meets c.args.cell.now c.placing.ensures.cell c.in-Some-wanted_suffix.suffix.now said host
    (subst (λ s. is_host_under host s ≡ true) c.as_str.ensures.text below) (subst (λ ls. IsDenied ls host) c.others-denials.ensures.others denied))
    c.other_below.ensures.below c.other_below.ensures.denied

pub returns-in-None-clause-meets : goal.returns-in-None-clause-meets
returns-in-None-clause-meets c =
    let no_host = rw c.placing.ensures.placing at c.in_default.ensures in
    let no_suffix = rw c.placing-2.ensures.placing at c.in-None.ensures in
    let some = rw c.others-denials.ensures.others at (sym c.has_domains.ensures ∙ c.if-has_domains.true) in
    IfOk-weaker c.other_address.result _ _
    (λ host denied. address_meets c.args.cell.now c.placing.ensures.cell no_host no_suffix host some (subst (λ ls. IsDenied ls host) c.others-denials.ensures.others denied))
    c.other_address.ensures.denied

pub returns-in-None-2-clause-meets : goal.returns-in-None-2-clause-meets
returns-in-None-2-clause-meets c =
    let no_host = rw c.placing.ensures.placing at c.in_default.ensures in
    let no_suffix = rw c.placing-2.ensures.placing at c.in-None-2.ensures in
    both_ok _ _ _ c.other_domain.result
    (λ host domain denied. domain_meets c.args.cell.now c.placing.ensures.cell no_host no_suffix host domain (subst (λ ls. IsDenied ls host) c.others-denials.ensures.others denied))
    c.other_domain.ensures.domain c.other_domain.ensures.denied
