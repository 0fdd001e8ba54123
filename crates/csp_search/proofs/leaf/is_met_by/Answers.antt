use Rattle.std.proofs.Common.{◌≡◌, ◌∙◌, ap, sym, true, Some, of_calls, rules}
use Rattle.csp_proof.specs.Accepts.{is_surely}
use Rattle.csp_search.proofs.Saying.{second_tells}
use Rattle.csp_search.proofs.leaf.is_met_by.Goals as goal

pub decided_by-requires : goal.decided_by-requires
decided_by-requires c =
    let b = c.args.branch.now in
    (second_tells c.args.question b.atoms b.literals c.requires c.in-Some-Some.answer.now c.in-Some-Some.ensures).named

pub returns-in-Some-Some : goal.returns-in-Some-Some
returns-in-Some-Some c on =
    let is : c.decided_by.result ≡ Some true = search (rules, of_calls) in
    let b = c.args.branch.now in
    sym ((second_tells c.args.question b.atoms b.literals c.requires c.in-Some-Some.answer.now c.in-Some-Some.ensures).value true)
    ∙ ap (is_surely true) (c.decided_by.ensures.answer is)
