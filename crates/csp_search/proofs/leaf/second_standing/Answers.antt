use Rattle.std.proofs.Common.{◌∙◌, ap, sym, true}
use Rattle.csp_proof.specs.Accepts.{is_surely}
use Rattle.csp_search.proofs.Saying.{decided_tells, second_silent, second_tells}
use Rattle.csp_search.proofs.leaf.second_standing.Goals as goal

pub decide-requires : goal.decide-requires
decide-requires c =
    let b = c.args.branch.now in
    (second_tells c.args.question b.atoms b.literals c.requires c.in-Some.answer.now c.in-Some.ensures).named

pub returns-in-Some-clause-meets : goal.returns-in-Some-clause-meets
returns-in-Some-clause-meets c =
    let b = c.args.branch.now in
    ap (is_surely true) c.decide.ensures
    ∙ (second_tells c.args.question b.atoms b.literals c.requires c.in-Some.answer.now c.in-Some.ensures).value true

pub returns-in-Some-clause-known : goal.returns-in-Some-clause-known
returns-in-Some-clause-known c =
    let b = c.args.branch.now in
    let tells = second_tells c.args.question b.atoms b.literals c.requires c.in-Some.answer.now c.in-Some.ensures in
    decided_tells c.decide.result _ c.decide.ensures tells.decided

pub returns-in-None-clause-meets : goal.returns-in-None-clause-meets
returns-in-None-clause-meets c =
    let b = c.args.branch.now in
    sym ((second_silent c.args.question b.atoms b.literals c.requires c.in-None.ensures).value true)

pub returns-in-None-clause-known : goal.returns-in-None-clause-known
returns-in-None-clause-known c =
    let b = c.args.branch.now in
    (second_silent c.args.question b.atoms b.literals c.requires c.in-None.ensures).decided
