use Rattle.std.proofs.Common.{◌∙◌, ap, sym, false}
use Rattle.csp_proof.specs.Accepts.{is_surely}
use Rattle.csp_search.proofs.Saying.{decided_tells, first_silent, first_tells}
use Rattle.csp_search.proofs.leaf.first_standing.Goals as goal

pub decide-requires : goal.decide-requires
decide-requires c =
    let b = c.args.branch.now in
    (first_tells c.args.question b.atoms b.literals c.requires c.args.place c.in-Some.answer.now c.in-Some.ensures).named

pub returns-in-Some-clause-blocks : goal.returns-in-Some-clause-blocks
returns-in-Some-clause-blocks c =
    let b = c.args.branch.now in
    ap (is_surely false) c.decide.ensures
    ∙ (first_tells c.args.question b.atoms b.literals c.requires c.args.place c.in-Some.answer.now c.in-Some.ensures).value false

pub returns-in-Some-clause-known : goal.returns-in-Some-clause-known
returns-in-Some-clause-known c =
    let b = c.args.branch.now in
    let tells = first_tells c.args.question b.atoms b.literals c.requires c.args.place c.in-Some.answer.now c.in-Some.ensures in
    decided_tells c.decide.result _ c.decide.ensures tells.decided

pub returns-in-None-clause-blocks : goal.returns-in-None-clause-blocks
returns-in-None-clause-blocks c =
    let b = c.args.branch.now in
    sym ((first_silent c.args.question b.atoms b.literals c.requires c.args.place c.in-None.ensures).value false)

pub returns-in-None-clause-known : goal.returns-in-None-clause-known
returns-in-None-clause-known c =
    let b = c.args.branch.now in
    (first_silent c.args.question b.atoms b.literals c.requires c.args.place c.in-None.ensures).decided
