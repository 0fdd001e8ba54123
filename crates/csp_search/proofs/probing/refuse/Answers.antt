use Rattle.std.proofs.Common.{ap, sym, subst, false}
use Rattle.csp_branch.specs.Paths.{Path}
use Rattle.csp_branch.specs.Walks.{Position, at_root}
use Rattle.csp_search.specs.Asking.{IsOpenName}
use Rattle.csp_search.specs.Branches.{IsBranch}
use Rattle.csp_search.specs.Questions.{asked_atoms}
use Rattle.csp_search.proofs.Going.{goes_on, room_left, stands_there}
use Rattle.csp_search.proofs.probing.refuse.Goals as goal

pub take-requires-clause-room : goal.take-requires-clause-room
take-requires-clause-room c =
    let q = c.args.asked.question in
    let same = c.loop-name.invariant.same in
    let branch = subst (λ (p : Position). IsBranch p.atoms (asked_atoms q) p.literals) (sym same) c.requires.branch in
    let is_open = subst (λ (p : Path). IsOpenName q p.atoms p.literals c.in-Some.name) c.branch-walker.ensures (c.is_open.ensures c.if-is_open.true) in
    room_left q c.args.walker.now c.loop-name.walker (ap at_root same) c.in-Some.name branch is_open c.requires.room

pub returns-then-is_open-clause-stands : goal.returns-then-is_open-clause-stands
returns-then-is_open-clause-stands c =
    let q = c.args.asked.question in
    let same = c.loop-name.invariant.same in
    let branch = subst (λ (p : Position). IsBranch p.atoms (asked_atoms q) p.literals) (sym same) c.requires.branch in
    let is_open = subst (λ (p : Path). IsOpenName q p.atoms p.literals c.in-Some.name) c.branch-walker.ensures (c.is_open.ensures c.if-is_open.true) in
    let on = goes_on q c.args.walker.now c.loop-name.walker (ap at_root same) c.in-Some.name branch is_open false c.take.new.self c.take.ensures in
    stands_there c.args.asked c.args.walker.now c.take.new.self c.requires on.0 on.1
