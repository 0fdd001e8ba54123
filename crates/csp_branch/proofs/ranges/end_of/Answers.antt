use Rattle.std.proofs.Common.{sym, ◌∙◌, true, false, arith}
use Rattle.csp_branch.proofs.Ending.{around_at, under_itself, under_more, under_all}
use Rattle.csp_branch.proofs.ranges.end_of.Goals as goal

pub loop-end-preserved : goal.loop-end-preserved
loop-end-preserved c =
    let most = c.loop-end-test.true in
    under_more c.args.atoms.now c.args.number c.loop-end.end _ c.requires.order c.loop-end.invariant most
    (around_at c.args.atoms.now c.args.number c.loop-end.end c.index-atoms-number.result c.index-atoms-end.result true c.requires.number most
    c.index-atoms-number.is c.index-atoms-end.is (sym c.is_around.ensures ∙ c.if-is_around.true))
    (c.requires.ends.each c.loop-end.end (let start = c.loop-end.invariant.above in omega arith) most)

pub returns-else-is_around : goal.returns-else-is_around
returns-else-is_around c =
    under_all c.args.atoms.now c.args.number c.loop-end.end c.requires.order c.loop-end.invariant
    (λ most. around_at c.args.atoms.now c.args.number c.loop-end.end c.index-atoms-number.result c.index-atoms-end.result false c.requires.number most
    c.index-atoms-number.is c.index-atoms-end.is (sym c.is_around.ensures ∙ c.if-is_around.false))

pub loop-end-init : goal.loop-end-init
loop-end-init c = under_itself c.args.atoms.now c.args.number c.requires.order c.requires.number
